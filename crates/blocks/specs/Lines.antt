-- What each line of an input says, by where it stands. Assumes nothing.
use Rattle.std.specs.Prelude.{ℕ, List, [], ◌∷◌, Option, Some, None, Result, Ok, Err, pos}
use Rattle.tables.specs.declared.refusal.Reason.TheVariants.{Malformed}
use Rattle.tables.specs.declared.refusal.Part.TheVariants.{Reader}
use Rattle.tables.specs.declared.refusal.Refusal.{Refusal}
use Rattle.blocks.specs.declared.block.Block.{Block}
use Rattle.blocks.specs.declared.order.Order.{Order}
use Rattle.blocks.specs.declared.mode.Mode.{Mode}
use Rattle.blocks.specs.declared.mode.Mode.TheVariants.{Between, Skipping, Within}
use Rattle.blocks.specs.Headings.{heading_of}
use Rattle.blocks.specs.Orders.{order_in}

-- a line that cannot be read; it has no place
abbrev pub malformed : Refusal
malformed = record { reason = Malformed; part = Reader; place = record { interval = pos 0; id = pos 0 } }

-- what a line says: nothing to do, an order, or that it is refused
abbrev pub Said : Type 0
Said = Result (Option Order) Refusal

-- a line of names opens its block; refused, the block is skipped
abbrev pub opened : Option (Block × List (List ℕ)) → Mode × Said
opened None = (Skipping, Err malformed)
opened (Some h) = (Within h, Ok None)

-- a line of values is an order
abbrev pub ordered : Block × List (List ℕ) → Option Order → Mode × Said
ordered h None = (Within h, Err malformed)
ordered h (Some order) = (Within h, Ok (Some order))

abbrev pub read_filled : List ℕ → Mode → Mode × Said
read_filled line Between = opened (heading_of line)
read_filled line Skipping = (Skipping, Ok None)
read_filled line (Within h) = ordered h (order_in h line)

-- an empty line ends a block
abbrev pub read_line : List ℕ → Mode → Mode × Said
read_line [] mode = (Between, Ok None)
read_line (b ∷ line) mode = read_filled (b ∷ line) mode
