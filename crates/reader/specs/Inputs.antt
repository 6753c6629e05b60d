-- What a whole input does: its lines, one after another. Assumes nothing.
use Rattle.std.specs.Prelude.{◌≡◌, ℕ, List, [], ◌∷◌}
use Rattle.words.specs.Texts.{pieces}
use Rattle.statement.specs.declared.statement.Statement.{Statement}
use Rattle.blocks.specs.declared.mode.Mode.TheVariants.{Between}
use Rattle.blocks.specs.Lines.{read_line}
use Rattle.reader.specs.declared.lines.LineReader.{LineReader}
use Rattle.reader.specs.Carrying.{Outcome, Obeyed}

-- the lines of an input: what line feeds part. The last ends with the input; where it is empty it does nothing.
abbrev pub lines_of : List ℕ → List (List ℕ)
lines_of input = pieces 10 input

-- between blocks, on a statement
abbrev pub starting : Statement → LineReader
starting statement = record { book = statement; mode = Between }

-- a line, read where the lines before it left the reader
abbrev pub LineTaken : List ℕ → LineReader → LineReader → Outcome → Type 0
LineTaken line before after outcome = (after.mode ≡ (read_line line before.mode).0) × Obeyed (read_line line before.mode).1 before.book after.book outcome

-- lines in turn, each with its outcome
abbrev pub LinesTaken : List (List ℕ) → LineReader → LineReader → List Outcome → Type 0
LinesTaken [] before after outcomes = (after ≡ before) × (outcomes ≡ [])
LinesTaken (line ∷ lines) before after outcomes =
    (next : LineReader) × (outcome : Outcome) × (others : List Outcome)
    × LineTaken line before next outcome × LinesTaken lines next after others × (outcomes ≡ outcome ∷ others)

-- a whole input
abbrev pub InputTaken : List ℕ → Statement → Statement → List Outcome → Type 0
InputTaken input before after outcomes = (end : LineReader) × LinesTaken (lines_of input) (starting before) end outcomes × (end.book ≡ after)
