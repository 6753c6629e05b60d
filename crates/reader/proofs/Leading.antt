-- How a reader is led on: by a line that ends, and by the bytes of one that does not.
use Rattle.std.proofs.Common.{◌≡◌, ◌∙◌, sym, ap, subst, ℕ, ◌==◌, true, List, [], ◌∷◌, ◌++◌, length, take, Option, Some, None, Ok, Err, get_or, refl, arith, append_assoc}
use Rattle.std.proofs.lemmas.List.{append-nil, length-append}
use Rattle.std.proofs.lemmas.Bool.Decides.{nat_tests}
use Rattle.std.specs.Option.{option_to_list}
use Rattle.words.specs.Texts.{pieces, Cut}
use Rattle.statement.specs.declared.statement.Statement.{Statement}
use Rattle.reader.specs.declared.input.InputReader.{InputReader}
use Rattle.reader.specs.declared.lines.LineReader.{LineReader}
use Rattle.reader.specs.declared.refused.RefusedLine.{RefusedLine}
use Rattle.reader.specs.Carrying.{Outcome, Obeyed}
use Rattle.reader.specs.Inputs.{starting, LineTaken, LinesTaken}
use Rattle.blocks.specs.Lines.{read_line}
use Rattle.reader.specs.Printing.{next_number, refused_after}
use Rattle.reader.specs.Feeding.{most_kept, Led, LedOn, ReadOn, Ended}
use Rattle.reader.specs.Working.{LineEnded}
use Rattle.reader.proofs.LongLines.{line_kept, kept_more}
use Rattle.reader.proofs.PartedLines.{pieces_go_on, first_whole, one_piece, pieces_ended}

-- a line is taken as another that says the same
taken_as : (line other : List ℕ) (before after : LineReader) (outcome : Outcome) → read_line line before.mode ≡ read_line other before.mode
    → LineTaken line before after outcome → LineTaken other before after outcome
taken_as line other before after outcome same taken =
    subst (λ x. (after.mode ≡ x.0) × Obeyed x.1 before.book after.book outcome) same taken

-- where nothing has begun
pub taken_whole : (begun line : List ℕ) (before after : LineReader) (outcome : Outcome) → (length begun == 0) ≡ true
    → LineTaken line before after outcome → LineTaken (take most_kept (begun ++ line)) before after outcome
taken_whole [] line before after outcome none taken =
    taken_as line (take most_kept line) before after outcome (sym (line_kept line before.mode)) taken
taken_whole (b ∷ begun) line before after outcome none taken = absurd (grind (arith, nat_tests))

lines_more : (lines : List (List ℕ)) (line : List ℕ) (before middle after : LineReader) (outcomes : List Outcome) (outcome : Outcome)
    → LinesTaken lines before middle outcomes → LineTaken line middle after outcome
    → LinesTaken (lines ++ line ∷ []) before after (outcomes ++ outcome ∷ [])
lines_more [] line before middle after outcomes outcome (same, none) taken =
    (after, outcome, [], subst (λ m. LineTaken line m after outcome) same taken, (refl, refl), ap (λ os. os ++ outcome ∷ []) none)
lines_more (l ∷ lines) line before middle after outcomes outcome (next, first, others, one, rest, is) taken =
    let more = lines_more lines line next middle after others outcome rest taken in
    (next, first, others ++ outcome ∷ [], one, more, ap (λ os. os ++ outcome ∷ []) is)

-- the line that has begun, ended by some bytes
line_taken : {start : Statement} {input bytes : List ℕ} {before after : InputReader} {refused : Option RefusedLine} {earlier : List Outcome}
    (led : Led start input before earlier) (line : LineEnded bytes before after refused)
    → LinesTaken (led.ended ++ (led.begun ++ bytes) ∷ []) (starting start) after.lines (earlier ++ line.outcome ∷ [])
line_taken {bytes} {before} {after} led line =
    let whole = led.begun ++ bytes in
    let kept = ap (λ b. take most_kept (b ++ bytes)) led.kept ∙ kept_more most_kept led.begun bytes in
    let same = ap (λ l. read_line l before.lines.mode) kept ∙ line_kept whole before.lines.mode in
    lines_more led.ended whole _ before.lines after.lines _ line.outcome led.taken (taken_as _ whole before.lines after.lines line.outcome same line.taken)

-- a line ends at a line feed
led_by_line : {first : List ℕ} {before after : InputReader} {refused : Option RefusedLine} → pieces 10 first ≡ first ∷ []
    → (line : LineEnded first before after refused) → LedOn (first ++ 10 ∷ []) before after (line.outcome ∷ [])
led_by_line {first} whole line start input earlier led = record {
  ended = led.ended ++ (led.begun ++ first) ∷ [];
  begun = [];
  lines = pieces_go_on 10 input (first ++ 10 ∷ []) led.ended led.begun first ([] ∷ []) led.lines (pieces_ended 10 first whole)
      ∙ sym (append_assoc led.ended ((led.begun ++ first) ∷ []) ([] ∷ []));
  taken = line_taken led line;
  numbered = line.number ∙ omega (arith, led.numbered, length-append led.ended ((led.begun ++ first) ∷ []));
  kept = line.begun;
}

-- a line goes on
led_by_rest : (line : List ℕ) (before after : InputReader) → pieces 10 line ≡ line ∷ []
    → after.lines ≡ before.lines → after.number ≡ before.number
    → after.begun.items ≡ take most_kept (before.begun.items ++ line) → LedOn line before after []
led_by_rest line before after whole lines number begun start input earlier led = record {
  ended = led.ended;
  begun = led.begun ++ line;
  lines = pieces_go_on 10 input line led.ended led.begun line [] led.lines whole;
  taken = rw (append-nil earlier, lines) led.taken;
  numbered = number ∙ led.numbered;
  kept = begun ∙ ap (λ b. take most_kept (b ++ line)) led.kept ∙ kept_more most_kept led.begun line;
}

told_last : (n : ℕ) (refused : RefusedLine) (outcome : Outcome) → refused ∷ [] ≡ refused_after n (outcome ∷ []) → refused.number ≡ next_number n
told_last n refused (Ok order) told = absurd (omega (arith, ap length told))
told_last n refused (Err r) told = ap (λ ls. (get_or ls 0 refused).number) told

-- a line is read
pub line_read : {bytes first rest : List ℕ} {before after : InputReader} {refused : Option RefusedLine}
    → Cut 10 bytes first (Some rest) → LineEnded first before after refused → ReadOn bytes rest before after (option_to_list refused)
line_read {bytes} {first} {rest} (apart, parts) line = record {
  front = first ++ 10 ∷ [];
  parts = parts ∙ sym (append_assoc first (10 ∷ []) rest);
  outcomes = line.outcome ∷ [];
  led = led_by_line (first_whole 10 bytes first (pieces 10 rest) apart) line;
  number = line.number;
  told = line.told;
}

-- where the line is refused, it is the last that was read
pub last_read : {bytes : List ℕ} {before after : InputReader} {refused : RefusedLine}
    → LineEnded bytes before after (Some refused) → refused.number ≡ after.number
last_read {before} {after} {refused} line = told_last before.number refused line.outcome line.told ∙ sym line.number

-- the last bytes are read, and a line goes on
pub rest_read : {bytes line : List ℕ} {before after : InputReader} → Cut 10 bytes line None
    → after.lines ≡ before.lines → after.number ≡ before.number
    → after.begun.items ≡ take most_kept (before.begun.items ++ line) → ReadOn bytes [] before after []
rest_read {bytes} {line} {before} {after} whole lines number begun = record {
  front = line;
  parts = sym (one_piece 10 bytes line whole) ∙ sym (append-nil line);
  outcomes = [];
  led = led_by_rest line before after (first_whole 10 bytes line [] whole) lines number begun;
  number = number;
  told = refl;
}

-- at the start of an input
pub led_at_start : (start : Statement) (reader : InputReader)
    → reader.lines ≡ starting start → reader.number ≡ 0 → reader.begun.items ≡ [] → Led start [] reader []
led_at_start start reader lines number begun = record {
  ended = [];
  begun = [];
  lines = refl;
  taken = (lines, refl);
  numbered = number;
  kept = begun;
}

-- an input ends with the line that has begun
pub input_ended : {before between : InputReader} {refused : Option RefusedLine} (lines : LineReader)
    → LineEnded [] before between refused → lines ≡ starting between.lines.book
    → Ended before (record { lines = lines; number = 0; begun = between.begun }) refused
input_ended {between} lines line is = record {
  outcomes = line.outcome ∷ [];
  taken = λ start input earlier led.
      let whole = ap (λ b. led.ended ++ b ∷ []) (append-nil led.begun) ∙ sym led.lines in (
        between.lines,
        subst (λ ls. LinesTaken ls (starting start) between.lines (earlier ++ line.outcome ∷ [])) whole (line_taken led line),
        ap (λ l. l.book) (sym is),
      );
  told = line.told;
  again = led_at_start lines.book _ (is ∙ ap (λ l. starting l.book) (sym is)) refl line.begun;
}
