-- What is printed of an input, block by block and at its end.
use Rattle.std.proofs.Common.{◌≡◌, ◌∙◌, sym, ap, ℕ, List, ◌++◌, Option, append_assoc}
use Rattle.std.specs.Io.KnownBytes.{Appends, Consumes, IsAtEnd}
use Rattle.records.specs.Ranges.{most_areas, most_parties, most_resources}
use Rattle.statement.specs.Ranges.{most_lines}
use Rattle.statement.specs.declared.statement.Statement.{Statement}
use Rattle.statement.specs.Histories.{opening}
use Rattle.statement.specs.Promises.{Promises}
use Rattle.reader.specs.declared.input.InputReader.{InputReader}
use Rattle.reader.specs.Carrying.{Outcome}
use Rattle.reader.specs.Feeding.{Led}
use Rattle.reader.specs.Printing.{refused_after, refusals_text, listing_text}
use Rattle.reader.specs.Promised.{Printed, full_book, output_of}
use Rattle.reader.specs.Working.{Fed, FinishedWith}
use Rattle.reader.proofs.Carried.{history_of_input, carried_by_input}
use Rattle.reader.proofs.Numbered.{numbered, refusals_more}
use Rattle.reader.proofs.Writing.{wrote_on}

-- after an input so far, of which the refused lines are printed
module _ (start : Statement) (input : List ℕ) (before after : InputReader) (outcomes : List Outcome) (held now holds : Option (List ℕ))
    (led : Led start input before outcomes) (told : Appends held now (refusals_text (refused_after 0 outcomes))) where
  refusals_on : (others : List Outcome)
      → refusals_text (refused_after 0 (outcomes ++ others)) ≡ refusals_text (refused_after 0 outcomes) ++ refusals_text (refused_after before.number others)
  refusals_on others = refusals_more 0 outcomes others before.number (numbered start input before outcomes led)

  -- those of more bytes are too
  pub printed_more : (bytes : List ℕ) (fed : Fed bytes before after now holds)
      → Appends held holds (refusals_text (refused_after 0 (outcomes ++ fed.outcomes)))
  printed_more bytes fed = wrote_on held now holds _ _ _ told fed.written (refusals_on fed.outcomes)

  -- and the rest
  pub printed_rest : (fin : FinishedWith before after now holds)
      → Appends held holds (output_of (outcomes ++ fin.ended.outcomes) after.lines.book)
  printed_rest fin =
      let others = fin.ended.outcomes in
      let first = refusals_text (refused_after 0 outcomes) in
      let rows = listing_text after.lines.book.lines.rows in
      wrote_on held now holds _ _ _ told fin.written
      (ap (λ text. text ++ rows) (refusals_on others)
      ∙ (append_assoc first (refusals_text (refused_after before.number others)) rows
      ∙ ap (λ lines. first ++ (refusals_text lines ++ rows)) (sym fin.ended.told)))

pub printed : (input : List ℕ) (before after : InputReader) (outcomes : List Outcome) (given left held now holds : Option (List ℕ))
    → Consumes given left input → IsAtEnd left → Led full_book input before outcomes
    → Appends held now (refusals_text (refused_after 0 outcomes))
    → FinishedWith before after now holds → Promises after.lines.book → Printed given left held holds
printed input before after outcomes given left held now holds read at_end led told fin promises =
    let taken = fin.ended.taken full_book input outcomes led in record {
      input = input;
      read = read;
      at_end = at_end;
      statement = after.lines.book;
      outcomes = outcomes ++ fin.ended.outcomes;
      taken = taken;
      written = printed_rest full_book input before after outcomes held now holds led told fin;
      carried = carried_by_input input full_book after.lines.book (outcomes ++ fin.ended.outcomes) taken;
      history = history_of_input input full_book after.lines.book (outcomes ++ fin.ended.outcomes) taken (opening most_areas most_parties most_resources most_lines);
      promises = promises;
    }
