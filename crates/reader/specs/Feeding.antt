-- What a reader has of an input that comes in pieces. Assumes nothing.
use Rattle.std.specs.Prelude.{◌≡◌, ℕ, List, [], ◌∷◌, ◌++◌, length, min, take, ◌<◌, Option, Some, None}
use denote.Bor.{Bor}
use Rattle.std.specs.Option.{option_to_list}
use Rattle.statement.specs.declared.statement.Statement.{Statement}
use Rattle.reader.specs.declared.input.InputReader.{InputReader}
use Rattle.reader.specs.declared.refused.RefusedLine.{RefusedLine}
use Rattle.reader.specs.Carrying.{Outcome}
use Rattle.reader.specs.Inputs.{lines_of, starting, LinesTaken, InputTaken}
use Rattle.reader.specs.Printing.{most_number, number_after, refused_after}

-- so much is kept of a line that has begun: of a line that is too long, so much that it still is
abbrev pub most_kept : ℕ
most_kept = 201

-- The bytes of an input so far lead from a statement to where a reader stands, with these outcomes of the lines that have ended.
pub record Led (start : Statement) (input : List ℕ) (reader : InputReader) (outcomes : List Outcome) : Type 0 where
  pub ended : List (List ℕ)
  pub begun : List ℕ
  pub lines : lines_of input ≡ ended ++ begun ∷ []
  pub taken : LinesTaken ended (starting start) reader.lines outcomes
  pub numbered : reader.number ≡ min (length ended) most_number
  pub kept : reader.begun.items ≡ take most_kept begun

-- Whatever input led there: with more bytes it leads on, with these outcomes of the lines that end in them.
abbrev pub LedOn : List ℕ → InputReader → InputReader → List Outcome → Type 0
LedOn bytes before after outcomes =
    (start : Statement) (input : List ℕ) (earlier : List Outcome) → Led start input before earlier → Led start (input ++ bytes) after (earlier ++ outcomes)

-- Bytes are read on to some rest of them, with these refused lines.
pub record ReadOn (bytes rest : List ℕ) (before after : InputReader) (refused : List RefusedLine) : Type 0 where
  pub front : List ℕ
  pub parts : bytes ≡ front ++ rest
  pub outcomes : List Outcome
  pub led : LedOn front before after outcomes
  pub number : after.number ≡ number_after before.number outcomes
  pub told : refused ≡ refused_after before.number outcomes

-- Read on to the next refused line, which is the last that was read, with some bytes at least and none of the next line; or to the end, and none
-- is refused.
abbrev pub NextRefused : List ℕ → InputReader → InputReader → Option (RefusedLine × Bor (List ℕ)) → Type 0
NextRefused bytes before after None = ReadOn bytes [] before after []
NextRefused bytes before after (Some (line, rest)) =
    ReadOn bytes rest.now before after (line ∷ []) × (line.number ≡ after.number) × (after.begun.items ≡ []) × (length rest.now < length bytes)

-- An input ends: whatever it was, all its lines have been taken, and the reader is at the start of another, on the statement after it.
pub record Ended (before after : InputReader) (refused : Option RefusedLine) : Type 0 where
  pub outcomes : List Outcome
  pub taken : (start : Statement) (input : List ℕ) (earlier : List Outcome) → Led start input before earlier → InputTaken input start after.lines.book (earlier ++ outcomes)
  pub told : option_to_list refused ≡ refused_after before.number outcomes
  pub again : Led after.lines.book [] after []
