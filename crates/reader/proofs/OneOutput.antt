-- What lines leave, and their outcomes, are determined by where they start.
use Rattle.std.proofs.Common.{◌≡◌, ◌∙◌, sym, ap, ap₂, subst, ℕ, List, [], ◌∷◌, Option, Some, None, Ok, Err}
use Rattle.tables.specs.declared.refusal.Refusal.{Refusal}
use Rattle.statement.specs.declared.statement.Statement.{Statement}
use Rattle.statement.specs.Histories.{History}
use Rattle.statement.proofs.OneOutcome.{one_outcome}
use Rattle.blocks.specs.declared.order.Order.{Order}
use Rattle.blocks.specs.declared.order.Order.TheVariants.{Call as CallOf, Settle as SettleBy}
use Rattle.blocks.specs.declared.mode.Mode.{Mode}
use Rattle.reader.specs.declared.lines.LineReader.{LineReader}
use Rattle.blocks.specs.Lines.{Said, read_line}
use Rattle.reader.specs.Carrying.{shares_by, refusal_in, Carried, Outcome, outcome_of, Obeyed}
use Rattle.reader.specs.Inputs.{lines_of, starting, LineTaken, LinesTaken}
use Rattle.reader.specs.Promised.{OneOutput}
use Rattle.reader.proofs.Carried.{history_obeyed}

module _ (before one other : Statement) (history : History before) where
  one_carried : (order : Order) (r s : Option Refusal) → Carried order before one r → Carried order before other s → (one ≡ other) × (r ≡ s)
  one_carried (CallOf call) r s (after, refused) (after', refused') = (after ∙ sym after', refused ∙ sym refused')
  one_carried (SettleBy rule) r s (answer, settled, refused) (answer', settled', refused') =
      let (same, answers) = one_outcome (shares_by rule) before one other answer answer' history settled settled' in (
        same,
        refused ∙ (ap refusal_in answers ∙ sym refused'),
      )

  one_obeyed : (said : Said) (o p : Outcome) → Obeyed said before one o → Obeyed said before other p → (one ≡ other) × (o ≡ p)
  one_obeyed (Err r) o p (same, is) (same', is') = (same ∙ sym same', is ∙ sym is')
  one_obeyed (Ok None) o p (same, is) (same', is') = (same ∙ sym same', is ∙ sym is')
  one_obeyed (Ok (Some order)) o p (r, carried, is) (s, carried', is') =
      let (same, refused) = one_carried order r s carried carried' in (same, is ∙ (ap (outcome_of order) refused ∙ sym is'))

one_taken : (line : List ℕ) (before one other : LineReader) (o p : Outcome) → History before.book → LineTaken line before one o
    → LineTaken line before other p → (one ≡ other) × (o ≡ p)
one_taken line before one other o p history (mode, obeyed) (mode', obeyed') =
    let (book, outcome) = one_obeyed before.book one.book other.book history (read_line line before.mode).1 o p obeyed obeyed' in
    (ap₂ (λ (b : Statement) (m : Mode). record { book = b; mode = m }) book (mode ∙ sym mode'), outcome)

one_by_lines : (lines : List (List ℕ)) (before one other : LineReader) (os ps : List Outcome) → History before.book
    → LinesTaken lines before one os → LinesTaken lines before other ps → (one ≡ other) × (os ≡ ps)
one_by_lines [] before one other os ps history (same, none) (same', none') = (same ∙ sym same', none ∙ sym none')
one_by_lines (line ∷ lines) before one other os ps history (next, o, others, taken, rest, is) (next', p, others', taken', rest', is') =
    let (same, outcome) = one_taken line before next next' o p history taken taken' in
    let later : LinesTaken lines next other others' = subst (λ n. LinesTaken lines n other others') (sym same) rest' in
    let booked = history_obeyed (read_line line before.mode).1 before.book next.book o taken.1 history in
    let (ends, outcomes) = one_by_lines lines next one other others others' booked rest later in
    (ends, is ∙ (ap₂ ◌∷◌ outcome outcomes ∙ sym is'))

pub one_output : OneOutput
one_output input start one other outcomes others history (end, taken, is) (end', taken', is') =
    let (ends, same) = one_by_lines (lines_of input) (starting start) end end' outcomes others history taken taken' in
    (sym is ∙ (ap (λ r. r.book) ends ∙ is'), same)
