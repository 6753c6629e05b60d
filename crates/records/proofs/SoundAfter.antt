-- Every call leaves sound records sound, and only adds ids. Assumes nothing.
use Rattle.std.proofs.Common.{◌≡◌, refl, sym, ap, ◌∙◌, subst, ℕ, ◌+◌, ◌≤◌, ◌==◌, Bool, true, false, cond, not, ◌&&◌, List, [], ◌∷◌, ◌++◌, Option, Some, None, is_some, ℤ, arith, eqb-true}
use Rattle.std.specs.List.{All, list_any, count_by}
use Rattle.std.specs.Option.{option_map_or}
use Rattle.std.proofs.lemmas.List.{map-append}
use Rattle.std.proofs.lemmas.List.Elements.{All-push, All-weaker}
use Rattle.std.proofs.lemmas.List.Sums.{sum_by_push}
use Rattle.tables.specs.Refusals.{first_fit}
use Rattle.tables.specs.Ranges.{as_id, flag}
use Rattle.tables.proofs.Fits.{none_fits, state_after_either, id_in_span}
use Rattle.tables.proofs.Pushed.{find_kept, count_none, none_of_any, keyed_push}
use Rattle.rows.specs.declared.kinds.AreaKind.{AreaKind}
use Rattle.rows.specs.declared.kinds.ResourceKind.{ResourceKind}
use Rattle.rows.specs.declared.party.Party.{Party}
use Rattle.records.specs.declared.call.Call.{Call}
use Rattle.records.specs.declared.call.Call.TheVariants.{EnterArea, EnterParty, EnterResource, PostEnergy, PostTag, PostElection, PostTest, PostTransfer, PostDemand, PostGiven}
use Rattle.records.specs.View.{Hour}
use Rattle.rows.specs.Kinds.{is_ciso}
use Rattle.records.specs.Ranges.{most_areas, most_parties, most_resources}
use Rattle.rows.specs.Rows.{new_area, new_party, new_resource, IsWholeArea, IsWholeParty, IsWholeResource}
use Rattle.rows.proofs.Records.{no_nopay}
use Rattle.rows.proofs.Whole.{whole_area, whole_party, whole_resource}
use Rattle.records.specs.Hours.{area_id, party_id, resource_id, area_of, party_of, area_is_ciso, area_is_weim, party_is_of_ciso, any_ciso, any_party_in}
use Rattle.records.specs.Calls.{reasons, made_by, hour_after}
use Rattle.records.specs.Sound.{Sound, AsEntered, IsUndeemed, IsWithoutNopay, Extends, StepsKeepSound}
use Rattle.records.proofs.SoundPosted.{Lasts, same_ids, none_new, energy_lasts, tag_lasts, election_lasts, test_lasts, transfer_lasts, demand_lasts, given_lasts}

-- what passes a test is there
there : {T : Type 0} (f : T → Bool) (o : Option T) → option_map_or f o false ≡ true → is_some o ≡ true
there f None e = e
there f (Some x) e = refl

-- one more is counted where it passes
count_push : {T : Type 0} (p : T → Bool) (xs : List T) (y : T) → count_by p (xs ++ y ∷ []) ≡ count_by p xs + cond (p y) 1 0
count_push p xs y = sum_by_push (λ x. cond (p x) 1 0) xs y

none_if_not_any : {T : Type 0} (p : T → Bool) (xs : List T) → list_any p xs ≡ false → count_by p xs ≡ 0
none_if_not_any p xs e = count_none p xs (none_of_any p xs e)

-- records with more areas, or more parties, have what those before had
module _ (h g : Hour) where
  ciso_stays : (id : ℕ) → (is_some (area_of h id) ≡ true → area_of g id ≡ area_of h id) → area_is_ciso h id ≡ true → area_is_ciso g id ≡ true
  ciso_stays id kept e = ap (λ o. option_map_or (λ a. is_ciso a.kind) o false) (kept (there _ (area_of h id) e)) ∙ e

  of_ciso_stays : (id : ℕ) → ((a : ℕ) → is_some (area_of h a) ≡ true → area_of g a ≡ area_of h a) → (is_some (party_of h id) ≡ true → party_of g id ≡ party_of h id) → party_is_of_ciso h id ≡ true → party_is_of_ciso g id ≡ true
  of_ciso_stays id areas parties e =
      ap (λ o. option_map_or (λ p. area_is_ciso g p.area) o false) (parties (there _ (party_of h id) e))
      ∙ home (party_of h id) e
    where
      home : (o : Option Party) → option_map_or (λ p. area_is_ciso h p.area) o false ≡ true → option_map_or (λ p. area_is_ciso g p.area) o false ≡ true
      home None e = e
      home (Some p) e = ciso_stays p.area (areas p.area) e

  -- a party that is not of the CISO area was not of it before
  entered_stays : (p : Party) → (is_some (area_of h p.area) ≡ true → area_of g p.area ≡ area_of h p.area) → AsEntered h p → AsEntered g p
  entered_stays p kept e other = e (grind (arith, other, ciso_stays p.area kept))

-- a test passes or fails
by_test : {P : Type 0} (b : Bool) → (b ≡ true → P) → (b ≡ false → P) → P
by_test true f g = f refl
by_test false f g = g refl

module _ (h : Hour) (s : Sound h) where
  -- no party is in an area that is not entered
  homeless : (i : ℕ) → is_some (area_of h i) ≡ false → All (λ p. (p.area == i) ≡ false) h.parties.rows
  homeless i n = All-weaker (λ p. is_some (area_of h p.area) ≡ true) (λ p. (p.area == i) ≡ false) (λ p e. by_test (p.area == i) (λ same. absurd (grind (arith, e, n, eqb-true p.area i same))) (λ other. other)) h.parties.rows s.homes

  -- a WEIM area takes one party more only where it has none
  single_more : (i : ℕ) (p : Party) → (area_is_weim h p.area && any_party_in p.area h.parties.rows) ≡ false → area_is_weim h i ≡ true → count_by (λ q. q.area == i) (h.parties.rows ++ p ∷ []) ≤ 1
  single_more i p free w =
      by_test (p.area == i)
      (λ same.
      let here : (area_is_weim h i && any_party_in i h.parties.rows) ≡ false =
      subst (λ j. (area_is_weim h j && any_party_in j h.parties.rows) ≡ false) (eqb-true p.area i same) free in
      let none : any_party_in i h.parties.rows ≡ false = grind (arith, w, here) in
      grind (arith, same, none_if_not_any (λ q. q.area == i) h.parties.rows none, count_push (λ q. q.area == i) h.parties.rows p))
      (λ other. grind (arith, other, s.single i w, count_push (λ q. q.area == i) h.parties.rows p))

  -- each accepted call in turn
  with_area : (id : ℤ) (kind : AreaKind) → first_fit (reasons (EnterArea id (Some kind)) h) ≡ None → Sound (made_by (EnterArea id (Some kind)) h)
  with_area id kind e =
      let call = EnterArea id (Some kind) in
      let fits = none_fits (reasons call h) e in
      let a = new_area (as_id id) kind in
      let g = made_by call h in
      let kept : (i : ℕ) → is_some (area_of h i) ≡ true → area_of g i ≡ area_of h i = λ i. find_kept (λ x. x.id == i) h.areas.rows a in
      record {
        areas = keyed_push area_id most_areas h.areas a (grind (arith, fits)) (id_in_span id (grind (arith, fits))) (grind (arith, fits)) s.areas;
        parties = s.parties;
        resources = s.resources;
        one_ciso =
            let no_second : (is_ciso kind && any_ciso h.areas.rows) ≡ false = grind (arith, fits) in
            grind (arith, s.one_ciso, no_second, count_push (λ a. is_ciso a.kind) h.areas.rows a, none_if_not_any (λ a. is_ciso a.kind) h.areas.rows);
        single = λ i w. by_test (is_some (area_of h i))
            (λ y. s.single i (ap (λ o. option_map_or (λ a. not (is_ciso a.kind)) o false) (sym (kept i y)) ∙ w))
            (λ n. grind (arith, count_none (λ p. p.area == i) h.parties.rows (homeless i n)));
        homes = All-weaker _ _ (λ p e. ap is_some (kept p.area e) ∙ e) h.parties.rows s.homes;
        owners = All-weaker _ _ (λ r e. of_ciso_stays h g r.owner kept (λ _. refl) e) h.resources.rows s.owners;
        as_entered = All-weaker (AsEntered h) (AsEntered g) (λ p. entered_stays h g p (kept p.area)) h.parties.rows s.as_entered;
        undeemed = s.undeemed;
        without_nopay = All-push IsWithoutNopay h.areas.rows a s.without_nopay (λ weim. no_nopay (as_id id) kind);
        whole_areas = All-push IsWholeArea h.areas.rows a s.whole_areas (whole_area (as_id id) kind);
        whole_parties = s.whole_parties;
        whole_resources = s.whole_resources;
      }

  with_party : (id area : ℤ) → first_fit (reasons (EnterParty id area) h) ≡ None → Sound (made_by (EnterParty id area) h)
  with_party id area e =
      let call = EnterParty id area in
      let fits = none_fits (reasons call h) e in
      let p = new_party (as_id id) (as_id area) in
      let g = made_by call h in
      record {
        areas = s.areas;
        parties = keyed_push party_id most_parties h.parties p (grind (arith, fits)) (id_in_span id (grind (arith, fits))) (grind (arith, fits)) s.parties;
        resources = s.resources;
        one_ciso = s.one_ciso;
        single = λ i w. single_more i p (grind (arith, fits)) w;
        homes = All-push (λ p. is_some (area_of h p.area) ≡ true) h.parties.rows p s.homes (grind (arith, fits));
        owners = All-weaker _ _ (λ r e. of_ciso_stays h g r.owner (λ _ _. refl) (find_kept (λ x. x.id == r.owner) h.parties.rows p) e) h.resources.rows s.owners;
        as_entered = All-push (AsEntered h) h.parties.rows p s.as_entered (λ _. refl);
        undeemed = s.undeemed;
        without_nopay = s.without_nopay;
        whole_areas = s.whole_areas;
        whole_parties = All-push IsWholeParty h.parties.rows p s.whole_parties (whole_party (as_id id) (as_id area));
        whole_resources = s.whole_resources;
      }

  with_resource : (id owner : ℤ) (kind : ResourceKind) (net exempt : ℤ) → first_fit (reasons (EnterResource id owner (Some kind) net exempt) h) ≡ None → Sound (made_by (EnterResource id owner (Some kind) net exempt) h)
  with_resource id owner kind net exempt e =
      let call = EnterResource id owner (Some kind) net exempt in
      let fits = none_fits (reasons call h) e in
      let r = new_resource (as_id id) (as_id owner) kind (flag net) (flag exempt) in
      record {
        areas = s.areas;
        parties = s.parties;
        resources = keyed_push resource_id most_resources h.resources r (grind (arith, fits)) (id_in_span id (grind (arith, fits))) (grind (arith, fits)) s.resources;
        one_ciso = s.one_ciso;
        single = s.single;
        homes = s.homes;
        owners = All-push (λ r. party_is_of_ciso h r.owner ≡ true) h.resources.rows r s.owners (grind (arith, fits));
        as_entered = s.as_entered;
        undeemed = All-push IsUndeemed h.resources.rows r s.undeemed (λ plain. refl);
        without_nopay = s.without_nopay;
        whole_areas = s.whole_areas;
        whole_parties = s.whole_parties;
        whole_resources = All-push IsWholeResource h.resources.rows r s.whole_resources (whole_resource (as_id id) (as_id owner) kind (flag net) (flag exempt));
      }

more_ids : {T : Type 0} (key : T → ℕ) (xs : List T) (y : T) → Extends key xs (xs ++ y ∷ [])
more_ids key xs y = (key y ∷ [], map-append key xs (y ∷ []))

-- sound records stay so after an accepted call, and only grow
lasts_made : (call : Call) (h : Hour) → first_fit (reasons call h) ≡ None → Sound h → Lasts h (made_by call h)
lasts_made (EnterArea id None) h e s = (s, none_new h)
lasts_made (EnterArea id (Some kind)) h e s = (
  with_area h s id kind e,
  record {
    areas = more_ids area_id h.areas.rows (new_area (as_id id) kind);
    parties = same_ids party_id h.parties.rows h.parties.rows refl;
    resources = same_ids resource_id h.resources.rows h.resources.rows refl;
    room = (refl, refl, refl);
  },
)
lasts_made (EnterParty id area) h e s = (
  with_party h s id area e,
  record {
    areas = same_ids area_id h.areas.rows h.areas.rows refl;
    parties = more_ids party_id h.parties.rows (new_party (as_id id) (as_id area));
    resources = same_ids resource_id h.resources.rows h.resources.rows refl;
    room = (refl, refl, refl);
  },
)
lasts_made (EnterResource id owner None net exempt) h e s = (s, none_new h)
lasts_made (EnterResource id owner (Some kind) net exempt) h e s = (
  with_resource h s id owner kind net exempt e,
  record {
    areas = same_ids area_id h.areas.rows h.areas.rows refl;
    parties = same_ids party_id h.parties.rows h.parties.rows refl;
    resources = more_ids resource_id h.resources.rows (new_resource (as_id id) (as_id owner) kind (flag net) (flag exempt));
    room = (refl, refl, refl);
  },
)
lasts_made (PostEnergy id interval post) h e s = energy_lasts h s id interval post
lasts_made (PostTag id interval post) h e s = tag_lasts h s id interval post
lasts_made (PostElection id post) h e s = election_lasts h s id post e
lasts_made (PostTest id quarter post) h e s = test_lasts h s id quarter post e
lasts_made (PostTransfer id interval post) h e s = transfer_lasts h s id interval post
lasts_made (PostDemand id interval units) h e s = demand_lasts h s id interval units e
lasts_made (PostGiven id interval code cents) h e s = given_lasts h s id interval code cents e

-- and after any call
pub lasts_left : (call : Call) (h : Hour) → Sound h → Lasts h (hour_after call h)
lasts_left call h s =
    state_after_either (Lasts h) (first_fit (reasons call h)) h (made_by call h)
    (λ e. lasts_made call h e s) (s, none_new h)

pub steps_keep_sound : StepsKeepSound
steps_keep_sound before after step s =
    subst (Lasts before) (sym step.made) (lasts_made step.call before step.accepted s)

-- what a call leaves of sound records is sound
pub sound_left : (call : Call) {h g : Hour} → Sound h → g ≡ hour_after call h → Sound g
sound_left call {h} s is = subst Sound (sym is) (lasts_left call h s).0
