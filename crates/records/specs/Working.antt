-- What only private functions and the proofs cite. Assumes nothing.
use Rattle.std.specs.Prelude.{◌≡◌, ℕ, Bool, true, false, Some, None, Result, Ok, Err}
use Rattle.std.specs.Option.{option_map}
use Rattle.tables.specs.View.{Table}
use Rattle.tables.specs.declared.refusal.Reason.{Reason}
use Rattle.tables.specs.declared.refusal.Reason.TheVariants.{NotEntered}
use Rattle.tables.specs.Refusals.{first_fit, answer_by}
use Rattle.tables.specs.Tables.{row_under, with_changed}
use Rattle.records.specs.declared.call.Call.{Call}
use Rattle.records.specs.View.{Hour}
use Rattle.records.specs.Keys.{Key, Post, read, put, said_of}
use Rattle.records.specs.Calls.{reasons}
use Rattle.records.specs.Kept.{now_stands}

-- how a call is judged: by the first reason that fits, if one does
abbrev pub verdict : Call → Hour → Result (Unit {0}) Reason
verdict call h = answer_by (first_fit (reasons call h))

module _ {T : Type 0} where
  -- the row with an id is changed where one is entered that passes; where the one that is entered does not, the reason is given
  abbrev pub TriedToChange : (T → ℕ) → ℕ → (T → Bool) → Reason → (T → T)
      → Table T → Table T → Result (Unit {0}) Reason → Type 0
  TriedToChange key id passes reason change before after (Ok _) =
      (x : T) × (row_under key id before.rows ≡ Some x) × (passes x ≡ true) × (after ≡ with_changed key id change before)
  TriedToChange key id passes reason change before after (Err NotEntered) =
      (row_under key id before.rows ≡ None) × (after ≡ before)
  TriedToChange key id passes reason change before after (Err r) =
      (x : T) × (row_under key id before.rows ≡ Some x) × (passes x ≡ false) × (r ≡ reason) × (after ≡ before)

-- Under its own key a post's record is read, and under every other key what was read before.
abbrev pub OneSlot : Type 0
OneSlot = (p : Post) (h : Hour) (key : Key) → read key (put p h) ≡ option_map (now_stands (said_of key p)) (read key h)
