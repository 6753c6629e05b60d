-- What the reading calls answer. Assumes nothing.
use Rattle.std.specs.Prelude.{List, [], ◌∷◌, Option, Some, None, is_some, Result, Ok, Err, ℤ}
use Rattle.std.specs.Option.{option_map, option_and_then}
use Rattle.tables.specs.declared.refusal.Reason.{Reason}
use Rattle.tables.specs.declared.refusal.Reason.TheVariants.{OutsideSpan, OutsideValues, NotEntered}
use Rattle.tables.specs.declared.refusal.Place.{Place}
use Rattle.tables.specs.declared.refusal.Refusal.{Refusal}
use Rattle.tables.specs.Refusals.{Fit, ◌unless◌, first_fit}
use Rattle.tables.specs.Ranges.{is_id, as_id}
use Rattle.rows.specs.declared.figures.DeemedEnergy.{DeemedEnergy}
use Rattle.rows.specs.declared.figures.GivenAmount.{GivenAmount}
use Rattle.rows.specs.declared.area.Election.{Election}
use Rattle.rows.specs.Slots.{is_slot, is_interval, slot_index}
use Rattle.rows.specs.Codes.{given_code}
use Rattle.rows.specs.Posted.{deemed_at}
use Rattle.rows.specs.Records.{Kind, OfElection, OfGiven, Record, slots}
use Rattle.records.specs.View.{Hour}
use Rattle.records.specs.Hours.{resource_of}
use Rattle.records.specs.Keys.{key, read}
use Rattle.records.specs.Calls.{key_of, refusal}

-- what is read: what stands there, but for the first reason that fits, and NotEntered where no row is found
abbrev pub read_unless : {X : Type 0} → Option Reason → Option X → Result X Reason
read_unless (Some reason) found = Err reason
read_unless None (Some x) = Ok x
read_unless None None = Err NotEntered

abbrev pub found_unless : {X : Type 0} → List (Fit Reason) → Option X → Result X Reason
found_unless fits found = read_unless (first_fit fits) found

-- the answer: the same, a refusal with its part and its place
abbrev pub answer_at : {X : Type 0} → Place → Result X Reason → Result X Refusal
answer_at place (Ok x) = Ok x
answer_at place (Err reason) = Err (refusal reason place)

-- a record of a kind in an interval or a quarter
abbrev pub slot_read : (k : Kind) → ℤ → ℤ → Hour → Result (Record k) Reason
slot_read k id slot h =
    found_unless
    (OutsideSpan unless is_id id ∷ OutsideSpan unless is_slot (slots k) slot ∷ [])
    (read (key_of k id slot) h)

abbrev pub election_read : ℤ → Hour → Result Election Reason
election_read id h = found_unless (OutsideSpan unless is_id id ∷ []) (read (key OfElection (as_id id) 0) h)

abbrev pub given_read : ℤ → ℤ → ℤ → Hour → Result GivenAmount Reason
given_read id interval code h =
    found_unless
    (OutsideSpan unless is_id id ∷ OutsideSpan unless is_interval interval ∷ OutsideValues unless is_some (given_code code) ∷ [])
    (option_and_then (λ c. read (key_of (OfGiven c) id interval) h) (given_code code))

-- the deemed energy of an interval, which no call posts
abbrev pub deemed_read : ℤ → ℤ → Hour → Result DeemedEnergy Reason
deemed_read id interval h =
    found_unless
    (OutsideSpan unless is_id id ∷ OutsideSpan unless is_interval interval ∷ [])
    (option_map (deemed_at (slot_index interval)) (resource_of h (as_id id)))
