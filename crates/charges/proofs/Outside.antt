-- Where no area is the CISO area there is no offset: no resource is entered, and nothing is given. Assumes nothing.
use Rattle.std.proofs.Common.{◌≡◌, ◌<◌, ◌==◌, ℕ, true, false, List, [], ◌∷◌, map, length, Option, Some, None, pos, neg_ℤ, refl, sym, ap, ◌∙◌, ⊎_elim, arith}
use Rattle.std.specs.List.{All, count_by}
use Rattle.std.specs.Option.{option_map_or}
use Rattle.std.proofs.lemmas.Bool.{cases_Bool, false≢true}
use Rattle.std.proofs.lemmas.Int.{ints}
use Rattle.std.proofs.lemmas.List.Elements.{All-head, All-weaker}
use Rattle.deemed.specs.Ranges.{hour_length}
use Rattle.rows.specs.declared.area.Area.{Area}
use Rattle.rows.specs.declared.party.Party.{Party}
use Rattle.rows.specs.declared.resource.Resource.{Resource}
use Rattle.rows.specs.declared.given.GivenCode.{GivenCode}
use Rattle.rows.specs.declared.given.GivenCode.TheVariants.{PassThrough, Cc6474, Cc6475}
use Rattle.rows.specs.Kinds.{is_ciso}
use Rattle.rows.proofs.NothingGiven.{nothing_given_at}
use Rattle.records.specs.View.{Hour}
use Rattle.records.specs.Hours.{ciso_among, area_is_ciso, party_is_of_ciso, party_of}
use Rattle.records.specs.Sound.{Sound, AsEntered}
use Rattle.charges.specs.Amounts.{given_cents, amount_6470, offset_by, offset_pool}
use Rattle.charges.proofs.Areas.{total_of_0}
use Rattle.charges.proofs.Totals.{total_same, counted}

none_among : (areas : List Area) (id : ℕ) → count_by (λ a. is_ciso a.kind) areas ≡ 0 → ciso_among areas id ≡ false
none_among [] id none = refl
none_among (a ∷ areas) id none =
    ⊎_elim (λ yes. let more = yes.1 in absurd (omega arith))
    (λ no.
    let later = none_among areas id (sym no.1 ∙ none) in
    ⊎_elim (λ e. rw e no.0) (λ e. rw e later) (cases_Bool (a.id == id)))
    (counted (λ a. is_ciso a.kind) a areas)

module _ (h : Hour) (sound : Sound h) (none : count_by (λ a. is_ciso a.kind) h.areas.rows ≡ 0) where
  outside : (id : ℕ) → area_is_ciso h id ≡ false
  outside id = none_among h.areas.rows id none

  of_none : (id : ℕ) → party_is_of_ciso h id ≡ false
  of_none id = at (party_of h id)
    where
      at : (o : Option Party) → option_map_or (λ p. area_is_ciso h p.area) o false ≡ false
      at None = refl
      at (Some p) = outside p.area

  no_resources : (resources : List Resource) → map (λ r. r.owner) resources ≡ map (λ r. r.owner) h.resources.rows → resources ≡ []
  no_resources resources same = first resources h.resources.rows sound.owners same
    where
      first : (rs ts : List Resource) → All (λ r. party_is_of_ciso h r.owner ≡ true) ts → map (λ r. r.owner) rs ≡ map (λ r. r.owner) ts → rs ≡ []
      first [] ts owners same = refl
      first (r ∷ rs) [] owners same = absurd (let e = ap length same in omega arith)
      first (r ∷ rs) (t ∷ ts) owners same = absurd (false≢true (sym (of_none t.owner) ∙ All-head (λ r. party_is_of_ciso h r.owner ≡ true) t ts owners))

  module _ (index : ℕ) (inside : index < hour_length) where
    given_none : (code : GivenCode) (p : Party) → AsEntered h p → given_cents code index p ≡ pos 0
    given_none code p as_entered = ap (given_cents code index) (as_entered (outside p.area)) ∙ nothing_given_at code index p.id p.area inside

    pub no_offset : (resources : List Resource) → map (λ r. r.owner) resources ≡ map (λ r. r.owner) h.resources.rows → offset_pool resources h.parties.rows index ≡ pos 0
    unfolding amount_6470 offset_pool
    no_offset resources same =
        let nobody = no_resources resources same in
        let each : All (λ p. offset_by [] index p ≡ pos 0) h.parties.rows =
        All-weaker (AsEntered h) (λ p. offset_by [] index p ≡ pos 0)
        (λ p e. omega (arith, ints, given_none PassThrough p e, given_none Cc6474 p e, given_none Cc6475 p e)) h.parties.rows sound.as_entered in
        rw nobody (ap neg_ℤ (total_same (offset_by [] index) (λ _. pos 0) h.parties.rows each ∙ total_of_0 h.parties.rows))
