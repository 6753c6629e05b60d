-- Columns, what stands in them of an area's parties, and amounts that are what lines come to. Assumes nothing.
use Rattle.std.proofs.Common.{◌≡◌, ℕ, zero, suc, ◌-◌, ◌<◌, ◌≤◌, ◌==◌, List, [], ◌∷◌, ◌++◌, map, length, drop, replicate, ℤ, slice_index, refl, ap, ◌∙◌, ⊎_elim, length-append, drop_at, arith}
use mathlib.Core.List.{map-map}
use Rattle.std.proofs.lemmas.Bool.{cases_Bool}
use Rattle.std.proofs.lemmas.List.{length-map, length-replicate}
use Rattle.rows.specs.declared.figures.Cents.{Cents}
use Rattle.rows.specs.declared.party.Party.{Party}
use Rattle.rows.specs.declared.resource.Resource.{Resource}
use Rattle.rows.specs.declared.area.Area.{Area}
use Rattle.records.specs.Ranges.{most_parties}
use Rattle.records.specs.Hours.{party_id}
use Rattle.charges.specs.declared.amounts.IntervalAmounts.{IntervalAmounts}
use Rattle.charges.specs.declared.code.ChargeCode.{ChargeCode}
use Rattle.charges.specs.declared.code.ChargeCode.TheVariants.{Cc6470, Cc6474, Cc6475, Cc6476, Cc6477}
use Rattle.charges.specs.Amounts.{column, rest, no_cents}
use Rattle.charges.specs.Codes.{column_under}
use Rattle.charges.specs.Columns.{parties_in, entries_in, cents_in}
use Rattle.charges.specs.Charged.{IntervalCharged}
use Rattle.statement.specs.declared.line.Line.{Line}
use Rattle.statement.specs.Lines.{cents_at, tally, come_to, billed}
use Rattle.statement.specs.Tallies.{Tallied}
use Rattle.statement.proofs.Known.{Agrees, Behind}

-- a party's number at its place, at the front of a column
at_front : (f : ℕ → ℤ) (ids : List ℕ) (more : List Cents) (i : ℕ) → i < length ids
    → cents_at (map (λ id. record { 0 = f id }) ids ++ more) i ≡ f (slice_index ids i)
at_front f [] more i inside = absurd (omega arith)
at_front f (id ∷ ids) more zero inside = refl
at_front f (id ∷ ids) more (suc i) inside = at_front f ids more i (omega arith)

-- and in a tally
pub at_tally : (f : ℕ → ℤ) (ids : List ℕ) (i : ℕ) → i < length ids → cents_at (tally f ids) i ≡ f (slice_index ids i)
at_tally f ids i inside = at_front f ids (replicate (most_parties - length ids) no_cents) i inside

-- a tally by ids is a column by parties
pub column_of_tally : (f : ℕ → ℤ) (parties : List Party) → tally f (map party_id parties) ≡ column (λ p. f p.id) parties
column_of_tally f parties = simp (map-map, length-map)

-- what an area's parties have at the front of a column
entries_of_front : (f : Party → ℤ) (area : ℕ) (parties : List Party) (more : List Cents)
    → entries_in area parties (map (λ p. record { 0 = f p }) parties ++ more) ≡ map (λ p. (p, record { 0 = f p })) (parties_in area parties)
entries_of_front f area [] more = refl
entries_of_front f area (p ∷ ps) more =
    let later = entries_of_front f area ps more in
    ⊎_elim (λ e. rw e (ap (λ l. (p, record { 0 = f p }) ∷ l) later)) (λ e. rw e later) (cases_Bool (p.area == area))

-- and in a column
pub entries_of_column : (f : Party → ℤ) (area : ℕ) (parties : List Party)
    → entries_in area parties (column f parties) ≡ map (λ p. (p, record { 0 = f p })) (parties_in area parties)
entries_of_column f area parties = entries_of_front f area parties (rest parties)

pub cents_of_column : (f : Party → ℤ) (area : ℕ) (parties : List Party) → cents_in area parties (column f parties) ≡ map f (parties_in area parties)
cents_of_column f area parties = ap (map (λ e. e.1.0)) (entries_of_column f area parties) ∙ simp map-map

-- a column has the full length, and nothing behind the parties
column_behind : (f : Party → ℤ) (parties : List Party) → length parties ≤ most_parties
    → (length (column f parties) ≡ most_parties) × (drop (length parties) (column f parties) ≡ rest parties)
column_behind f parties few =
    let front : List Cents = map (λ p. record { 0 = f p }) parties in
    let long : length front ≡ length parties = length-map parties _ in (
      omega (arith, length-append front (rest parties), length-replicate (most_parties - length parties) no_cents),
      drop_at front (rest parties) (length parties) long,
    )

-- and so have columns that are charged
pub charged_behind : {shares : ℤ → List ℕ → List ℤ} {areas : List Area} {parties : List Party} {resources : List Resource} {place : ℕ} {x : IntervalAmounts}
    → IntervalCharged shares areas parties resources place x → length parties ≤ most_parties → Behind (length parties) x
charged_behind {parties = parties} charged few Cc6470 = rw charged.cc_6470 (column_behind _ parties few)
charged_behind {parties = parties} charged few Cc6474 = rw charged.cc_6474 (column_behind _ parties few)
charged_behind {parties = parties} charged few Cc6475 = rw charged.cc_6475 (column_behind _ parties few)
charged_behind charged few Cc6476 = (charged.cc_6476_long, charged.cc_6476_rest)
charged_behind charged few Cc6477 = (charged.cc_6477_long, charged.cc_6477_rest)

is_tally : (f : ℕ → ℤ) (ids : List ℕ) (xs : List Cents) (k : ℕ) → length ids ≤ length xs → drop (length ids) xs ≡ replicate k no_cents
    → ((i : ℕ) → i < length ids → cents_at xs i ≡ f (slice_index ids i)) → xs ≡ map (λ id. record { 0 = f id }) ids ++ replicate k no_cents
is_tally f [] xs k few behind each = behind
is_tally f (id ∷ ids) [] k few behind each = absurd (omega arith)
is_tally f (id ∷ ids) (c ∷ cs) k few behind each =
    let first = each 0 (omega arith) in
    let later = is_tally f ids cs k (omega arith) behind (λ i inside. each (suc i) (omega arith)) in
    λ j. record { 0 = first j } ∷ later j

-- where amounts agree with lines party by party, and nothing is behind the parties, columns are tallies
pub tallied_of : (lines : List Line) (ids : List ℕ) (place : ℕ) (x : IntervalAmounts) → length ids ≤ most_parties → Behind (length ids) x
    → Agrees lines ids place x → Tallied lines ids place x
tallied_of lines ids place x few behind agrees = record {
  parties = λ code.
      let b = behind code in
      is_tally (billed lines code place) ids (column_under code x) (most_parties - length ids) (omega arith) b.1 (agrees.parties code);
  balance = agrees.balance;
}

pub agrees_of : (lines : List Line) (ids : List ℕ) (place : ℕ) (x : IntervalAmounts) → Tallied lines ids place x → Agrees lines ids place x
agrees_of lines ids place x tallied = record {
  parties = λ code i inside. rw (tallied.parties code) (at_tally (billed lines code place) ids i inside);
  balance = tallied.balance;
}

-- what lines come to is the tally of them
pub come_to_tallied : (lines : List Line) (ids : List ℕ) (place : ℕ) → Tallied lines ids place (come_to lines ids place)
unfolding come_to
come_to_tallied lines ids place = record { parties = under; balance = refl }
  where
    under : (code : ChargeCode) → column_under code (come_to lines ids place) ≡ tally (billed lines code place) ids
    under Cc6470 = refl
    under Cc6474 = refl
    under Cc6475 = refl
    under Cc6476 = refl
    under Cc6477 = refl

-- what lines come to agrees with them
pub come_to_agrees : (lines : List Line) (ids : List ℕ) (place : ℕ) → Agrees lines ids place (come_to lines ids place)
come_to_agrees lines ids place = agrees_of lines ids place (come_to lines ids place) (come_to_tallied lines ids place)
