-- Keeping deemed energies changes nothing else of the resources, and leaves sound records sound. Assumes nothing.
use Rattle.std.proofs.Common.{◌≡◌, refl, sym, ap, ◌∙◌, ℕ, ◌≤◌, ◌==◌, Bool, true, false, cond, Option, Some, List, [], ◌∷◌, map, length, arith}
use Rattle.std.specs.List.{All}
use Rattle.std.specs.Option.{option_and_then}
use Rattle.std.proofs.lemmas.Simd.{map-map}
use Rattle.std.proofs.lemmas.List.Elements.{All-nil, All-cons, All-head, All-tail, All-weaker}
use Rattle.tables.specs.Tables.{row_under}
use Rattle.tables.proofs.Alike.{alike_all, keyed_alike}
use Rattle.deemed.specs.Ranges.{hour_length}
use Rattle.rows.specs.declared.figures.DeemedEnergy.{DeemedEnergy}
use Rattle.rows.specs.declared.resource.Resource.{Resource}
use Rattle.rows.specs.Rows.{IsWholeResource}
use Rattle.rows.specs.Posted.{with_energies, with_table}
use Rattle.rows.specs.Records.{Kind, OfEnergy, OfTag, OfElection, OfTest, OfTransfer, OfDemand, OfGiven, get}
use Rattle.records.specs.View.{Hour}
use Rattle.records.specs.Keys.{key, read}
use Rattle.records.specs.Ranges.{most_resources}
use Rattle.records.specs.Hours.{area_id, party_id, resource_id, party_is_of_ciso, with_deemed}
use Rattle.records.specs.Sound.{Sound, IsUndeemed, Grows}
use Rattle.records.proofs.SoundPosted.{same_ids}

-- a resource but for its deemed energies
abbrev pub but_deemed : Resource → Resource
but_deemed r = record r { deemed = [] }

abbrev WholeButDeemed : Resource → Type 0
WholeButDeemed r = (length r.energy ≡ hour_length) × (length r.tags ≡ hour_length)

-- resources with the deemed energies of a table that has a row for each
pub same_but_deemed : (table : List (List DeemedEnergy)) (rs : List Resource) → length rs ≤ length table → map but_deemed (with_table table rs) ≡ map but_deemed rs
same_but_deemed table [] room = refl
same_but_deemed [] (r ∷ rs) room = absurd (omega arith)
same_but_deemed (energies ∷ table) (r ∷ rs) room = ap (λ l. but_deemed r ∷ l) (same_but_deemed table rs (omega arith))

pub ids_but_deemed : (table : List (List DeemedEnergy)) (rs : List Resource) → length rs ≤ length table → map resource_id (with_table table rs) ≡ map resource_id rs
ids_but_deemed table rs room =
    sym (map-map resource_id but_deemed (with_table table rs)) ∙ ap (map resource_id) (same_but_deemed table rs room) ∙ map-map resource_id but_deemed rs

-- for a plain resource nothing is deemed afterwards, where nothing was
still_undeemed : (table : List (List DeemedEnergy)) (rs : List Resource) → length rs ≤ length table → All IsUndeemed rs → All IsUndeemed (with_table table rs)
still_undeemed table [] room h = All-nil IsUndeemed
still_undeemed [] (r ∷ rs) room h = absurd (omega arith)
still_undeemed (energies ∷ table) (r ∷ rs) room h =
    All-cons IsUndeemed (with_energies energies r) (with_table table rs) (λ plain. rw plain (All-head IsUndeemed r rs h plain))
    (still_undeemed table rs (omega arith) (All-tail IsUndeemed r rs h))

-- what is read of a row that is found, where it does not depend on the deemed energies
module _ {X : Type 0} (g : Resource → Option X) (kept : (energies : List DeemedEnergy) (r : Resource) → g (with_energies energies r) ≡ g r) (id : ℕ) where
  picked : (b : Bool) (x y : Resource) (o o' : Option Resource) → g x ≡ g y → option_and_then g o ≡ option_and_then g o'
      → option_and_then g (cond b (Some x) o) ≡ option_and_then g (cond b (Some y) o')
  picked true x y o o' here later = here
  picked false x y o o' here later = later

  read_row : (table : List (List DeemedEnergy)) (rs : List Resource) → length rs ≤ length table
      → option_and_then g (row_under resource_id id (with_table table rs)) ≡ option_and_then g (row_under resource_id id rs)
  read_row table [] room = refl
  read_row [] (r ∷ rs) room = absurd (omega arith)
  read_row (energies ∷ table) (r ∷ rs) room =
      picked (r.id == id) (with_energies energies r) r _ _ (kept energies r) (read_row table rs (omega arith))

module _ (table : List (List DeemedEnergy)) (h : Hour) (room : length h.resources.rows ≤ length table) where
  pub grows_deemed : Grows h (with_deemed table h)
  grows_deemed = record {
    areas = same_ids area_id h.areas.rows h.areas.rows refl;
    parties = same_ids party_id h.parties.rows h.parties.rows refl;
    resources = same_ids resource_id h.resources.rows (with_table table h.resources.rows) (ids_but_deemed table h.resources.rows room);
    room = (refl, refl, refl);
  }

  -- every record that is posted is read as before
  pub read_deemed : (k : Kind) (id i : ℕ) → read (key k id i) (with_deemed table h) ≡ read (key k id i) h
  read_deemed OfEnergy id i = read_row (get OfEnergy i) (λ energies r. refl) id table h.resources.rows room
  read_deemed OfTag id i = read_row (get OfTag i) (λ energies r. refl) id table h.resources.rows room
  read_deemed OfElection id i = refl
  read_deemed OfTest id i = refl
  read_deemed OfTransfer id i = refl
  read_deemed OfDemand id i = refl
  read_deemed (OfGiven code) id i = refl

  -- where an energy stands in each interval
  pub sound_deemed : All (λ r. length r.deemed ≡ hour_length) (with_table table h.resources.rows) → Sound h → Sound (with_deemed table h)
  sound_deemed whole s =
      let before : List Resource = h.resources.rows in
      let after : List Resource = with_table table before in
      let same : map but_deemed after ≡ map but_deemed before = same_but_deemed table before room in
      let rest : All WholeButDeemed after =
      alike_all but_deemed before after same WholeButDeemed (All-weaker IsWholeResource WholeButDeemed (λ r w. (w.0, w.1)) before s.whole_resources) in
      record {
        areas = s.areas;
        parties = s.parties;
        resources = keyed_alike resource_id most_resources h.resources (with_deemed table h).resources (ids_but_deemed table before room) refl s.resources;
        one_ciso = s.one_ciso;
        single = s.single;
        homes = s.homes;
        owners = alike_all but_deemed before after same (λ r. party_is_of_ciso h r.owner ≡ true) s.owners;
        as_entered = s.as_entered;
        undeemed = still_undeemed table before room s.undeemed;
        without_nopay = s.without_nopay;
        whole_areas = s.whole_areas;
        whole_parties = s.whole_parties;
        whole_resources = λ k d inside. let w = rest k d inside in (w.0, w.1, whole k d inside);
      }
