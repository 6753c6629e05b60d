-- How bytes are read on, one part after another.
use Rattle.std.proofs.Common.{◌∙◌, sym, ap, subst, ℕ, List, [], ◌++◌, Option, refl, append_assoc, append-nil}
use Rattle.std.specs.Io.KnownBytes.{Appends}
use Rattle.reader.specs.declared.input.InputReader.{InputReader}
use Rattle.reader.specs.declared.refused.RefusedLine.{RefusedLine}
use Rattle.reader.specs.Carrying.{Outcome}
use Rattle.reader.specs.Printing.{number_after, refusals_text}
use Rattle.reader.specs.Feeding.{LedOn, ReadOn}
use Rattle.reader.specs.Working.{Fed}
use Rattle.reader.proofs.Numbered.{number_after_all, refused_after_all}

led_on_by_none : (reader : InputReader) → LedOn [] reader reader []
led_on_by_none reader start input earlier led = rw (append-nil input, append-nil earlier) led

led_on_by_both : (bytes more : List ℕ) (before middle after : InputReader) (outcomes others : List Outcome)
    → LedOn bytes before middle outcomes → LedOn more middle after others → LedOn (bytes ++ more) before after (outcomes ++ others)
led_on_by_both bytes more before middle after outcomes others first second start input earlier led =
    rw (← append_assoc input bytes more, ← append_assoc earlier outcomes others)
    (second start (input ++ bytes) (earlier ++ outcomes) (first start input earlier led))

pub read_on_by_none : (bytes : List ℕ) (reader : InputReader) → ReadOn bytes bytes reader reader []
read_on_by_none bytes reader = record { front = []; parts = refl; outcomes = []; led = led_on_by_none reader; number = refl; told = refl }

pub read_on_by_both : (bytes rest left : List ℕ) (before middle after : InputReader) (refused others : List RefusedLine)
    → ReadOn bytes rest before middle refused → ReadOn rest left middle after others → ReadOn bytes left before after (refused ++ others)
read_on_by_both bytes rest left before middle after refused others first second = record {
  front = first.front ++ second.front;
  parts = first.parts ∙ (ap (λ bs. first.front ++ bs) second.parts ∙ sym (append_assoc first.front second.front left));
  outcomes = first.outcomes ++ second.outcomes;
  led = led_on_by_both first.front second.front before middle after first.outcomes second.outcomes first.led second.led;
  number = second.number ∙ (ap (λ n. number_after n second.outcomes) first.number ∙ sym (number_after_all before.number first.outcomes second.outcomes));
  told = rw (refused_after_all before.number first.outcomes second.outcomes, ← first.number, first.told, second.told) refl;
}

-- bytes are read to their end, and what is refused in them is printed
pub fed : (bytes : List ℕ) (before after : InputReader) (refused : List RefusedLine) (held holds : Option (List ℕ))
    → ReadOn bytes [] before after refused → Appends held holds (refusals_text refused) → Fed bytes before after held holds
fed bytes before after refused held holds read written = record {
  outcomes = read.outcomes;
  led = subst (λ bs. LedOn bs before after read.outcomes) (sym (read.parts ∙ append-nil read.front)) read.led;
  written = subst (λ lines. Appends held holds (refusals_text lines)) read.told written;
}
