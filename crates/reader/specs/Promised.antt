-- What is true of every input. Assumes nothing.
use Rattle.std.specs.Prelude.{◌≡◌, ℕ, List, [], ◌∷◌, ◌++◌, filter_map, Option, None, Ok, Err, ⊤}
use Rattle.std.specs.Io.KnownBytes.{Appends, Consumes, IsAtEnd}
use Rattle.records.specs.Ranges.{most_areas, most_parties, most_resources}
use Rattle.statement.specs.Ranges.{most_lines}
use Rattle.statement.specs.declared.statement.Statement.{Statement}
use Rattle.statement.specs.Statements.{opened}
use Rattle.statement.specs.Histories.{History}
use Rattle.statement.specs.Promises.{Promises}
use Rattle.blocks.specs.declared.order.Order.{Order}
use Rattle.reader.specs.declared.failure.RunError.{RunError}
use Rattle.reader.specs.declared.failure.RunError.TheVariants.{OutOfMemory, Input, Output}
use Rattle.reader.specs.declared.lines.LineReader.{LineReader}
use Rattle.reader.specs.Carrying.{Outcome, Carried}
use Rattle.reader.specs.Inputs.{lines_of, starting, LinesTaken, InputTaken}
use Rattle.reader.specs.Printing.{refused_after, refusals_text, listing_text}

-- the orders that were accepted, in turn
abbrev pub accepted : Outcome → Option Order
accepted (Ok order) = order
accepted (Err r) = None

abbrev pub accepted_orders : List Outcome → List Order
accepted_orders outcomes = filter_map accepted outcomes

-- orders in turn, each of them accepted
abbrev pub AllCarried : List Order → Statement → Statement → Type 0
AllCarried [] before after = after ≡ before
AllCarried (order ∷ orders) before after = (next : Statement) × Carried order before next None × AllCarried orders next after

-- a book of an hour with nothing entered, of the full numbers of rows
abbrev pub full_book : Statement
full_book = opened most_areas most_parties most_resources most_lines

-- what is printed of an input: its refused lines, and then the listing of the statement that it leads to
abbrev pub output_of : List Outcome → Statement → List ℕ
output_of outcomes statement = refusals_text (refused_after 0 outcomes) ++ listing_text statement.lines.rows

-- A whole input read to its end and printed, by the bytes that the reader gives before and after, and those that the writer holds
pub record Printed (given left held holds : Option (List ℕ)) : Type 0 where
  pub input : List ℕ
  pub read : Consumes given left input
  pub at_end : IsAtEnd left
  pub statement : Statement
  pub outcomes : List Outcome
  pub taken : InputTaken input full_book statement outcomes
  pub written : Appends held holds (output_of outcomes statement)
  -- the accepted lines alone lead there, in their order
  pub carried : AllCarried (accepted_orders outcomes) full_book statement
  pub history : History statement
  pub promises : Promises statement

-- An input read so far, and of the lines that have ended in it just the refused ones printed, by the same bytes
pub record PrintedSoFar (given left held holds : Option (List ℕ)) : Type 0 where
  pub input : List ℕ
  pub read : Consumes given left input
  pub ended : List (List ℕ)
  pub begun : List ℕ
  pub lines : lines_of input ≡ ended ++ begun ∷ []
  pub reader : LineReader
  pub outcomes : List Outcome
  pub taken : LinesTaken ended (starting full_book) reader outcomes
  pub written : Appends held holds (refusals_text (refused_after 0 outcomes))

-- What has been read and printed by a failure: nothing where there is no memory, and where the input cannot be read on the refused lines so far.
-- Where the output cannot be written nothing is said, since no writer tells what it has taken by then.
abbrev pub PrintedOnFailure : RunError → Option (List ℕ) → Option (List ℕ) → Option (List ℕ) → Option (List ℕ) → Type 0
PrintedOnFailure OutOfMemory given left held holds = (left ≡ given) × (holds ≡ held)
PrintedOnFailure (Input error) given left held holds = PrintedSoFar given left held holds
PrintedOnFailure (Output error) given left held holds = ⊤

-- an input has one outcome: the statement that it starts on leaves no choice, neither of its lines' outcomes nor of the statement after it
abbrev pub OneOutput : Type 0
OneOutput =
    (input : List ℕ) (start one other : Statement) (outcomes others : List Outcome) → History start
    → InputTaken input start one outcomes → InputTaken input start other others → (one ≡ other) × (outcomes ≡ others)
