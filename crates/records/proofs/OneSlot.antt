-- A post changes what is read under its own key, and nothing else that is read. Assumes nothing.
use Rattle.std.proofs.Common.{◌≡◌, refl, sym, ap, ◌∙◌, subst, ℕ, zero, suc, ◌==◌, ◌&&◌, ◌≢◌, Bool, true, false, cond, List, [], ◌∷◌, Option, Some, None, option_map, slice_get, slice_set, arith, eqb-true}
use Rattle.std.specs.Option.{option_and_then}
use Rattle.std.proofs.lemmas.Bool.Decides.{nat_tests}
use Rattle.tables.specs.View as view
use Rattle.tables.specs.Tables.{row_under, with_changed}
use Rattle.tables.proofs.Changed.{found_own, found_other}
use Rattle.rows.specs.Records.{Table, Areas, Parties, Resources, Row, id_of, Kind, OfEnergy, OfTag, OfElection, OfTest, OfTransfer, OfDemand, OfGiven, Record, table, all, get, set}
use Rattle.rows.specs.declared.given.GivenCode.TheVariants.{PassThrough, Cc6474, Cc6475}
use Rattle.rows.proofs.Records.{set_all, set_id, own_kind}
use Rattle.records.specs.View.{Hour}
use Rattle.records.specs.Keys.{table_of, with_table_of, key, read, put, said_of}
use Rattle.records.specs.Kept.{now_stands}
use Rattle.records.specs.Working.{OneSlot}

-- nothing is said
nothing : {R : Type 0} (o : Option R) → o ≡ option_map (now_stands None) o
nothing None = refl
nothing (Some x) = refl

nothing_if : {R : Type 0} (b : Bool) (o : Option R) → o ≡ option_map (now_stands (cond b None None)) o
nothing_if true o = nothing o
nothing_if false o = nothing o

-- one element of a list is replaced
replaced_same : {X : Type 0} (xs : List X) (i : ℕ) (x : X) → slice_get (slice_set xs i x) i ≡ option_map (now_stands (Some x)) (slice_get xs i)
replaced_same [] i x = refl
replaced_same (y ∷ ys) zero x = refl
replaced_same (y ∷ ys) (suc i) x = replaced_same ys i x

replaced_other : {X : Type 0} (xs : List X) (i j : ℕ) (x : X) → i ≢ j → slice_get (slice_set xs i x) j ≡ slice_get xs j
replaced_other [] i j x ne = refl
replaced_other (y ∷ ys) zero zero x ne = absurd (ne refl)
replaced_other (y ∷ ys) zero (suc j) x ne = refl
replaced_other (y ∷ ys) (suc i) zero x ne = refl
replaced_other (y ∷ ys) (suc i) (suc j) x ne = replaced_other ys i j x (λ e. ne (ap suc e))

replaced : {X : Type 0} (xs : List X) (i j : ℕ) (x : X) → slice_get (slice_set xs i x) j ≡ option_map (now_stands (cond (i == j) (Some x) None)) (slice_get xs j)
replaced xs i j x = go (i == j) refl
  where
    go : (b : Bool) → (i == j) ≡ b → slice_get (slice_set xs i x) j ≡ option_map (now_stands (cond b (Some x) None)) (slice_get xs j)
    go true e = subst (λ k. slice_get (slice_set xs i x) k ≡ option_map (now_stands (Some x)) (slice_get xs k)) (eqb-true i j e) (replaced_same xs i x)
    go false e = replaced_other xs i j x (λ same. grind (arith, nat_tests, e, same)) ∙ nothing (slice_get xs j)

-- a row of a table is changed: what is looked up in it, and in the others
module _ {R : Type 0} {T : Type 0} (key_of : T → ℕ) (f : T → T) (kept : (row : T) → key_of (f row) ≡ key_of row) (look : T → Option R) where
  in_row : (said : Option R) (id other : ℕ) (here : Bool) (t : view.Table T)
      → ((row : T) → look (f row) ≡ option_map (now_stands (cond here said None)) (look row))
      → (b : Bool) → (id == other) ≡ b
      → option_and_then look (row_under key_of other (with_changed key_of id f t).rows) ≡ option_map (now_stands (cond (b && here) said None)) (option_and_then look (row_under key_of other t.rows))
  in_row said id other here t seen true e =
      subst (λ i. option_and_then look (row_under key_of i (with_changed key_of id f t).rows) ≡ option_map (now_stands (cond here said None)) (option_and_then look (row_under key_of i t.rows)))
      (eqb-true id other e) (ap (option_and_then look) (found_own key_of id t f kept) ∙ at (row_under key_of id t.rows))
    where
      at : (o : Option T) → option_and_then look (option_map f o) ≡ option_map (now_stands (cond here said None)) (option_and_then look o)
      at None = refl
      at (Some row) = seen row
  in_row said id other here t seen false e = ap (option_and_then look) (found_other key_of id t f kept other e) ∙ nothing (option_and_then look (row_under key_of other t.rows))

  -- where the change cannot be seen
  unseen : (id other : ℕ) (here : Bool) (t : view.Table T) → ((row : T) → look (f row) ≡ look row)
      → option_and_then look (row_under key_of other (with_changed key_of id f t).rows) ≡ option_map (now_stands (cond (id == other && here) None None)) (option_and_then look (row_under key_of other t.rows))
  unseen id other here t same = in_row None id other here t (λ row. same row ∙ nothing_if here (look row)) (id == other) refl

abbrev Slotwise : (k j : Kind) → Type 0
Slotwise k j =
    (id i other n : ℕ) (r : Record k) (h : Hour)
    → read (key j other n) (put (record { key = key k id i; what = r }) h)
    ≡ option_map (now_stands (said_of (key j other n) (record { key = key k id i; what = r }))) (read (key j other n) h)

-- the table that is put is the one that stands
table_put : (t : Table) (rows : view.Table (Row t)) (h : Hour) → table_of t (with_table_of t rows h) ≡ rows
table_put Areas rows h = refl
table_put Parties rows h = refl
table_put Resources rows h = refl

own : (k : Kind) → Slotwise k k
own k id i other n r h =
    ap (λ t. option_and_then (get k n) (row_under (id_of (table k)) other t.rows)) (table_put (table k) (with_changed (id_of (table k)) id (set k i r) (table_of (table k) h)) h)
    ∙ in_row (id_of (table k)) (set k i r) (set_id k i r) (get k n) (Some r) id other (i == n) (table_of (table k) h)
    (λ row. ap (λ xs. slice_get xs n) (set_all k i r row) ∙ replaced (all k row) i n r) (id == other) refl
    ∙ ap (λ said. option_map (now_stands (cond (id == other && i == n) said None)) (read (key k other n) h)) (sym (own_kind k r))

one_slot : (k j : Kind) → Slotwise k j
one_slot OfEnergy OfEnergy id i other n r h = own OfEnergy id i other n r h
one_slot OfTag OfTag id i other n r h = own OfTag id i other n r h
one_slot OfElection OfElection id i other n r h = own OfElection id i other n r h
one_slot OfTest OfTest id i other n r h = own OfTest id i other n r h
one_slot OfTransfer OfTransfer id i other n r h = own OfTransfer id i other n r h
one_slot OfDemand OfDemand id i other n r h = own OfDemand id i other n r h
one_slot (OfGiven PassThrough) (OfGiven PassThrough) id i other n r h = own (OfGiven PassThrough) id i other n r h
one_slot (OfGiven Cc6474) (OfGiven Cc6474) id i other n r h = own (OfGiven Cc6474) id i other n r h
one_slot (OfGiven Cc6475) (OfGiven Cc6475) id i other n r h = own (OfGiven Cc6475) id i other n r h
one_slot OfEnergy OfTag id i other n r h = unseen (id_of Resources) (set OfEnergy i r) (λ row. refl) (get OfTag n) id other (i == n) h.resources (λ row. refl)
one_slot OfTag OfEnergy id i other n r h = unseen (id_of Resources) (set OfTag i r) (λ row. refl) (get OfEnergy n) id other (i == n) h.resources (λ row. refl)
one_slot OfElection OfTest id i other n r h = unseen (id_of Areas) (set OfElection i r) (λ row. refl) (get OfTest n) id other (i == n) h.areas (λ row. refl)
one_slot OfElection OfTransfer id i other n r h = unseen (id_of Areas) (set OfElection i r) (λ row. refl) (get OfTransfer n) id other (i == n) h.areas (λ row. refl)
one_slot OfTest OfElection id i other n r h = unseen (id_of Areas) (set OfTest i r) (λ row. refl) (get OfElection n) id other (i == n) h.areas (λ row. refl)
one_slot OfTest OfTransfer id i other n r h = unseen (id_of Areas) (set OfTest i r) (λ row. refl) (get OfTransfer n) id other (i == n) h.areas (λ row. refl)
one_slot OfTransfer OfElection id i other n r h = unseen (id_of Areas) (set OfTransfer i r) (λ row. refl) (get OfElection n) id other (i == n) h.areas (λ row. refl)
one_slot OfTransfer OfTest id i other n r h = unseen (id_of Areas) (set OfTransfer i r) (λ row. refl) (get OfTest n) id other (i == n) h.areas (λ row. refl)
one_slot OfDemand (OfGiven PassThrough) id i other n r h = unseen (id_of Parties) (set OfDemand i r) (λ row. refl) (get (OfGiven PassThrough) n) id other (i == n) h.parties (λ row. refl)
one_slot OfDemand (OfGiven Cc6474) id i other n r h = unseen (id_of Parties) (set OfDemand i r) (λ row. refl) (get (OfGiven Cc6474) n) id other (i == n) h.parties (λ row. refl)
one_slot OfDemand (OfGiven Cc6475) id i other n r h = unseen (id_of Parties) (set OfDemand i r) (λ row. refl) (get (OfGiven Cc6475) n) id other (i == n) h.parties (λ row. refl)
one_slot (OfGiven PassThrough) OfDemand id i other n r h = unseen (id_of Parties) (set (OfGiven PassThrough) i r) (λ row. refl) (get OfDemand n) id other (i == n) h.parties (λ row. refl)
one_slot (OfGiven PassThrough) (OfGiven Cc6474) id i other n r h = unseen (id_of Parties) (set (OfGiven PassThrough) i r) (λ row. refl) (get (OfGiven Cc6474) n) id other (i == n) h.parties (λ row. refl)
one_slot (OfGiven PassThrough) (OfGiven Cc6475) id i other n r h = unseen (id_of Parties) (set (OfGiven PassThrough) i r) (λ row. refl) (get (OfGiven Cc6475) n) id other (i == n) h.parties (λ row. refl)
one_slot (OfGiven Cc6474) OfDemand id i other n r h = unseen (id_of Parties) (set (OfGiven Cc6474) i r) (λ row. refl) (get OfDemand n) id other (i == n) h.parties (λ row. refl)
one_slot (OfGiven Cc6474) (OfGiven PassThrough) id i other n r h = unseen (id_of Parties) (set (OfGiven Cc6474) i r) (λ row. refl) (get (OfGiven PassThrough) n) id other (i == n) h.parties (λ row. refl)
one_slot (OfGiven Cc6474) (OfGiven Cc6475) id i other n r h = unseen (id_of Parties) (set (OfGiven Cc6474) i r) (λ row. refl) (get (OfGiven Cc6475) n) id other (i == n) h.parties (λ row. refl)
one_slot (OfGiven Cc6475) OfDemand id i other n r h = unseen (id_of Parties) (set (OfGiven Cc6475) i r) (λ row. refl) (get OfDemand n) id other (i == n) h.parties (λ row. refl)
one_slot (OfGiven Cc6475) (OfGiven PassThrough) id i other n r h = unseen (id_of Parties) (set (OfGiven Cc6475) i r) (λ row. refl) (get (OfGiven PassThrough) n) id other (i == n) h.parties (λ row. refl)
one_slot (OfGiven Cc6475) (OfGiven Cc6474) id i other n r h = unseen (id_of Parties) (set (OfGiven Cc6475) i r) (λ row. refl) (get (OfGiven Cc6474) n) id other (i == n) h.parties (λ row. refl)
one_slot k j id i other n r h = nothing_if (id == other && i == n) (read (key j other n) h)

pub one : OneSlot
one p h k = one_slot p.key.kind k.kind p.key.id p.key.index k.id k.index p.what h
