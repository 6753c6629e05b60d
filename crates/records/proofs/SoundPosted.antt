-- Posting leaves sound records sound: it changes nothing that they are sound by, but for nopay, and nothing of a party outside the CISO area. Assumes nothing.
use Rattle.std.proofs.Common.{◌≡◌, refl, sym, ap, ◌∙◌, subst, ℕ, ◌≤◌, ◌==◌, true, false, not, List, [], map, length, append-nil, Option, Some, None, is_some, ℤ, pos, arith}
use Rattle.std.specs.List.{All}
use Rattle.std.specs.Option.{option_map, option_map_or}
use Rattle.std.proofs.lemmas.Simd.{map-map}
use Rattle.std.proofs.lemmas.Bool.Decides.{Decides-int_eq}
use Rattle.std.proofs.lemmas.List.Elements.{All-weaker, All-set}
use Rattle.tables.specs.Refusals.{first_fit}
use Rattle.tables.specs.Ranges.{as_id}
use Rattle.tables.specs.Tables.{with_changed}
use Rattle.tables.proofs.Changed.{changed_looks, changed_all, changed_room, found_holds}
use Rattle.tables.proofs.Fits.{none_fits}
use Rattle.tables.proofs.Alike.{alike_all, alike_count, alike_found, alike_told, keyed_alike}
use Rattle.deemed.specs.Ranges.{hour_length}
use Rattle.deemed.specs.declared.quantities.Units.{Units}
use Rattle.rows.specs.declared.kinds.AreaKind.{AreaKind}
use Rattle.rows.specs.declared.figures.Power.{Power}
use Rattle.rows.specs.declared.figures.Cents.{Cents}
use Rattle.rows.specs.declared.area.Area.{Area}
use Rattle.rows.specs.declared.area.Election.{Election}
use Rattle.rows.specs.declared.area.SufficiencyTest.{SufficiencyTest}
use Rattle.rows.specs.declared.party.Party.{Party}
use Rattle.rows.specs.declared.given.GivenCode.{GivenCode}
use Rattle.rows.specs.declared.posts.EnergyPost.{EnergyPost}
use Rattle.rows.specs.declared.posts.TagPost.{TagPost}
use Rattle.rows.specs.declared.posts.TransferPost.{TransferPost}
use Rattle.rows.specs.declared.posts.ElectionPost.{ElectionPost}
use Rattle.rows.specs.declared.posts.TestPost.{TestPost}
use Rattle.rows.specs.Ranges.{quarters}
use Rattle.rows.specs.Rows.{nothing_deemed}
use Rattle.rows.specs.Kinds.{is_ciso, is_tie}
use Rattle.rows.specs.Slots.{slot_index}
use Rattle.rows.specs.Figures.{as_unsigned, as_given}
use Rattle.rows.specs.Codes.{given_code}
use Rattle.rows.specs.Posts.{energy_record, tag_record, election_record, test_record, transfer_record}
use Rattle.rows.specs.Records.{Table, Areas, Parties, Resources, Row, id_of, OfEnergy, OfTag, OfElection, OfTest, OfTransfer, OfDemand, OfGiven, table, set}
use Rattle.rows.proofs.Records.{frame, set_frame}
use Rattle.records.specs.declared.call.Call.TheVariants.{PostEnergy, PostTag, PostElection, PostTest, PostTransfer, PostDemand, PostGiven}
use Rattle.records.specs.View.{Hour}
use Rattle.records.specs.Ranges.{most_areas, most_parties, most_resources}
use Rattle.records.specs.Hours.{area_id, party_id, resource_id, area_of, party_of, area_is_ciso, area_is_weim, party_is_of_ciso, nopay_allowed, nopay_allowed_at}
use Rattle.records.specs.Keys.{table_of, with_table_of, key, Post, put}
use Rattle.records.specs.Calls.{reasons, made_by, key_of}
use Rattle.records.specs.Sound.{Sound, AsEntered, IsWithoutNopay, Grows, Extends}

-- records after some call are sound, and only grew
abbrev pub Lasts : Hour → Hour → Type 0
Lasts before after = Sound after × Grows before after

-- where the ids stay, none is added
pub same_ids : {T : Type 0} (key : T → ℕ) (xs ys : List T) → map key ys ≡ map key xs → Extends key xs ys
same_ids key xs ys e = ([], e ∙ sym (append-nil (map key xs)))

pub none_new : (h : Hour) → Grows h h
none_new h = record {
  areas = same_ids area_id h.areas.rows h.areas.rows refl;
  parties = same_ids party_id h.parties.rows h.parties.rows refl;
  resources = same_ids resource_id h.resources.rows h.resources.rows refl;
  room = (refl, refl, refl);
}

-- in each table the rows are as they were, but for the records that are posted for them
abbrev Alike : Hour → Hour → Type 0
Alike h g = (t : Table) → (map (frame t) (table_of t g).rows ≡ map (frame t) (table_of t h).rows) × ((table_of t g).most ≡ (table_of t h).most)

alike_changed : (u : Table) (id : ℕ) (f : Row u → Row u) → ((row : Row u) → frame u (f row) ≡ frame u row) → (h : Hour)
    → Alike h (with_table_of u (with_changed (id_of u) id f (table_of u h)) h)
alike_changed Areas id f same h Areas = (changed_looks (id_of Areas) id h.areas f (frame Areas) same, changed_room (id_of Areas) id h.areas f)
alike_changed Parties id f same h Parties = (changed_looks (id_of Parties) id h.parties f (frame Parties) same, changed_room (id_of Parties) id h.parties f)
alike_changed Resources id f same h Resources = (changed_looks (id_of Resources) id h.resources f (frame Resources) same, changed_room (id_of Resources) id h.resources f)
alike_changed u id f same h t = (refl, refl)

alike_put : (p : Post) (h : Hour) → Alike h (put p h)
alike_put p h = alike_changed (table p.key.kind) p.key.id (set p.key.kind p.key.index p.what) (set_frame p.key.kind p.key.index p.what) h

-- the ids are a part of it
ids_of : {T L : Type 0} (look : T → L) (id : L → ℕ) (xs ys : List T) → map look ys ≡ map look xs → map (λ y. id (look y)) ys ≡ map (λ x. id (look x)) xs
ids_of look id xs ys e = sym (map-map id look ys) ∙ ap (map id) e ∙ map-map id look xs

module _ (h g : Hour) (a : Alike h g) where
  area_ids : map area_id g.areas.rows ≡ map area_id h.areas.rows
  area_ids = ids_of (frame Areas) (λ l. l.id) h.areas.rows g.areas.rows (a Areas).0

  party_ids : map party_id g.parties.rows ≡ map party_id h.parties.rows
  party_ids = ids_of (frame Parties) (λ l. l.id) h.parties.rows g.parties.rows (a Parties).0

  resource_ids : map resource_id g.resources.rows ≡ map resource_id h.resources.rows
  resource_ids = ids_of (frame Resources) (λ l. l.id) h.resources.rows g.resources.rows (a Resources).0

  weim_as_before : (id : ℕ) → area_is_weim g id ≡ area_is_weim h id
  weim_as_before id = alike_told (frame Areas) h.areas.rows g.areas.rows (a Areas).0 (λ l. not (is_ciso l.kind)) false (λ l. l.id == id)

  ciso_as_before : (id : ℕ) → area_is_ciso g id ≡ area_is_ciso h id
  ciso_as_before id = alike_told (frame Areas) h.areas.rows g.areas.rows (a Areas).0 (λ l. is_ciso l.kind) false (λ l. l.id == id)

  entered_as_before : (id : ℕ) → is_some (area_of g id) ≡ is_some (area_of h id)
  entered_as_before id = alike_found (frame Areas) h.areas.rows g.areas.rows (a Areas).0 (λ l. l.id == id)

  of_ciso_as_before : (id : ℕ) → party_is_of_ciso g id ≡ party_is_of_ciso h id
  of_ciso_as_before id =
      alike_told (frame Parties) h.parties.rows g.parties.rows (a Parties).0 (λ l. area_is_ciso g l.area) false (λ l. l.id == id)
      ∙ home (party_of h id)
    where
      home : (o : Option Party) → option_map_or (λ p. area_is_ciso g p.area) o false ≡ option_map_or (λ p. area_is_ciso h p.area) o false
      home None = refl
      home (Some p) = ciso_as_before p.area

  sound_alike : All (AsEntered h) g.parties.rows → All IsWithoutNopay g.areas.rows → Sound h → Sound g
  sound_alike entered nopay s = record {
    areas = keyed_alike area_id most_areas h.areas g.areas area_ids (a Areas).1 s.areas;
    parties = keyed_alike party_id most_parties h.parties g.parties party_ids (a Parties).1 s.parties;
    resources = keyed_alike resource_id most_resources h.resources g.resources resource_ids (a Resources).1 s.resources;
    one_ciso = subst (λ n. n ≤ 1) (sym (alike_count (frame Areas) h.areas.rows g.areas.rows (a Areas).0 (λ l. is_ciso l.kind))) s.one_ciso;
    single = λ id w.
        subst (λ n. n ≤ 1) (sym (alike_count (frame Parties) h.parties.rows g.parties.rows (a Parties).0 (λ l. l.area == id)))
        (s.single id (sym (weim_as_before id) ∙ w));
    homes =
        All-weaker (λ p. is_some (area_of h p.area) ≡ true) (λ p. is_some (area_of g p.area) ≡ true) (λ p e. entered_as_before p.area ∙ e) g.parties.rows
        (alike_all (frame Parties) h.parties.rows g.parties.rows (a Parties).0 (λ l. is_some (area_of h l.area) ≡ true) s.homes);
    owners =
        All-weaker (λ r. party_is_of_ciso h r.owner ≡ true) (λ r. party_is_of_ciso g r.owner ≡ true) (λ r e. of_ciso_as_before r.owner ∙ e) g.resources.rows
        (alike_all (frame Resources) h.resources.rows g.resources.rows (a Resources).0 (λ l. party_is_of_ciso h l.owner ≡ true) s.owners);
    as_entered = All-weaker (AsEntered h) (AsEntered g) (λ p e other. e (sym (ciso_as_before p.area) ∙ other)) g.parties.rows entered;
    undeemed =
        alike_all (frame Resources) h.resources.rows g.resources.rows (a Resources).0
        (λ l. is_tie l.kind ≡ false → l.deemed ≡ nothing_deemed) s.undeemed;
    without_nopay = nopay;
    whole_areas =
        alike_all (frame Areas) h.areas.rows g.areas.rows (a Areas).0
        (λ l. (l.tests ≡ quarters) × (l.transfers ≡ hour_length)) s.whole_areas;
    whole_parties =
        alike_all (frame Parties) h.parties.rows g.parties.rows (a Parties).0
        (λ l. (l.demand ≡ hour_length) × (l.pass_through ≡ hour_length) × (l.cc_6474 ≡ hour_length) × (l.cc_6475 ≡ hour_length))
        s.whole_parties;
    whole_resources =
        alike_all (frame Resources) h.resources.rows g.resources.rows (a Resources).0
        (λ l. (l.energy ≡ hour_length) × (l.tags ≡ hour_length) × (length l.deemed ≡ hour_length)) s.whole_resources;
  }

  grows_alike : Grows h g
  grows_alike = record {
    areas = same_ids area_id h.areas.rows g.areas.rows area_ids;
    parties = same_ids party_id h.parties.rows g.parties.rows party_ids;
    resources = same_ids resource_id h.resources.rows g.resources.rows resource_ids;
    room = ((a Areas).1, (a Parties).1, (a Resources).1);
  }

  alike_lasts : All (AsEntered h) g.parties.rows → All IsWithoutNopay g.areas.rows → Sound h → Lasts h g
  alike_lasts entered nopay s = (sound_alike entered nopay s, grows_alike)

-- a nopay that fits in a WEIM area is 0
nopay_0 : (nopay : Power) (kind : AreaKind) → nopay_allowed nopay kind ≡ true → is_ciso kind ≡ false → nopay.kilowatts.0 ≡ pos 0
unfolding nopay_allowed
nopay_0 nopay kind fits weim = grind (arith, Decides-int_eq nopay.kilowatts.0 (pos 0), fits, weim)

election_free : (election : Election) (a : Area) → nopay_allowed election.nopay a.kind ≡ true → IsWithoutNopay a → IsWithoutNopay (set OfElection 0 election a)
election_free election a fits free weim = (nopay_0 election.nopay a.kind fits weim, (free weim).1)

test_free : (i : ℕ) (test : SufficiencyTest) (a : Area) → nopay_allowed test.nopay a.kind ≡ true → IsWithoutNopay a → IsWithoutNopay (set OfTest i test a)
test_free i test a fits free weim =
    ((free weim).0, All-set (λ (t : SufficiencyTest). t.nopay.kilowatts.0 ≡ pos 0) a.tests i test (nopay_0 test.nopay a.kind fits weim) (free weim).1)

module _ (h : Hour) (s : Sound h) where
  -- a post for a resource
  resource_lasts : (p : Post) → (put p h).areas ≡ h.areas → (put p h).parties ≡ h.parties → Lasts h (put p h)
  resource_lasts p areas parties =
      alike_lasts h (put p h) (alike_put p h) (subst (λ t. All (AsEntered h) t.rows) (sym parties) s.as_entered)
      (subst (λ t. All IsWithoutNopay t.rows) (sym areas) s.without_nopay) s

  -- one for an area, which stays without nopay
  area_lasts : (id : ℕ) (f : Area → Area) → Alike h (record h { areas = with_changed (id_of Areas) id f h.areas })
      → ((a : Area) → area_of h id ≡ Some a → IsWithoutNopay a → IsWithoutNopay (f a)) → Lasts h (record h { areas = with_changed (id_of Areas) id f h.areas })
  area_lasts id f alike free =
      alike_lasts h _ alike s.as_entered
      (changed_all (id_of Areas) id h.areas f IsWithoutNopay
      (λ a e. free a e (found_holds (λ x. x.id == id) IsWithoutNopay h.areas.rows a s.without_nopay e)) s.without_nopay) s

  -- the nopay fits in the area that is found
  allowed_there : (id : ℕ) (nopay : Power) (a : Area) → nopay_allowed_at h id nopay ≡ true → area_of h id ≡ Some a → nopay_allowed nopay a.kind ≡ true
  allowed_there id nopay a fits e = ap (λ o. option_map_or (λ x. nopay_allowed nopay x.kind) o true) (sym e) ∙ fits

  -- one for a party of the CISO area: each other party is as it was
  party_lasts : (id : ℕ) (f : Party → Party) → Alike h (record h { parties = with_changed (id_of Parties) id f h.parties })
      → ((p : Party) → (f p).area ≡ p.area) → party_is_of_ciso h id ≡ true → Lasts h (record h { parties = with_changed (id_of Parties) id f h.parties })
  party_lasts id f alike same of_ciso =
      alike_lasts h _ alike (changed_all (id_of Parties) id h.parties f (AsEntered h) none_other s.as_entered) s.without_nopay s
    where
      none_other : (p : Party) → party_of h id ≡ Some p → AsEntered h (f p)
      none_other p e other =
          let home : area_is_ciso h (f p).area ≡ area_is_ciso h p.area = ap (area_is_ciso h) (same p) in
          let found : party_is_of_ciso h id ≡ area_is_ciso h p.area = ap (λ o. option_map_or (λ p. area_is_ciso h p.area) o false) e in
          absurd (cc)

  -- each posting call in turn
  pub energy_lasts : (id interval : ℤ) (post : EnergyPost) → Lasts h (made_by (PostEnergy id interval post) h)
  energy_lasts id interval post = resource_lasts (record { key = key_of OfEnergy id interval; what = energy_record post }) refl refl

  pub tag_lasts : (id interval : ℤ) (post : TagPost) → Lasts h (made_by (PostTag id interval post) h)
  tag_lasts id interval post = resource_lasts (record { key = key_of OfTag id interval; what = tag_record post }) refl refl

  pub election_lasts : (id : ℤ) (post : ElectionPost) → first_fit (reasons (PostElection id post) h) ≡ None → Lasts h (made_by (PostElection id post) h)
  election_lasts id post e =
      let election : Election = election_record post in
      let fits : nopay_allowed_at h (as_id id) election.nopay ≡ true = (let none = none_fits (reasons (PostElection id post) h) e in grind (arith, none)) in
      area_lasts (as_id id) (set OfElection 0 election) (alike_put (record { key = key OfElection (as_id id) 0; what = election }) h)
      (λ a found. election_free election a (allowed_there (as_id id) election.nopay a fits found))

  pub test_lasts : (id quarter : ℤ) (post : TestPost) → first_fit (reasons (PostTest id quarter post) h) ≡ None → Lasts h (made_by (PostTest id quarter post) h)
  test_lasts id quarter post e =
      let test : SufficiencyTest = test_record post in
      let fits : nopay_allowed_at h (as_id id) test.nopay ≡ true = (let none = none_fits (reasons (PostTest id quarter post) h) e in grind (arith, none)) in
      area_lasts (as_id id) (set OfTest (slot_index quarter) test) (alike_put (record { key = key_of OfTest id quarter; what = test }) h)
      (λ a found. test_free (slot_index quarter) test a (allowed_there (as_id id) test.nopay a fits found))

  pub transfer_lasts : (id interval : ℤ) (post : TransferPost) → Lasts h (made_by (PostTransfer id interval post) h)
  transfer_lasts id interval post =
      area_lasts (as_id id) (set OfTransfer (slot_index interval) (transfer_record post))
      (alike_put (record { key = key_of OfTransfer id interval; what = transfer_record post }) h) (λ a found free. free)

  pub demand_lasts : (id interval : ℤ) (units : Units) → first_fit (reasons (PostDemand id interval units) h) ≡ None → Lasts h (made_by (PostDemand id interval units) h)
  demand_lasts id interval units e =
      let none = none_fits (reasons (PostDemand id interval units) h) e in
      party_lasts (as_id id) (set OfDemand (slot_index interval) (as_unsigned units))
      (alike_put (record { key = key_of OfDemand id interval; what = as_unsigned units }) h) (λ p. refl) (grind (arith, none))

  pub given_lasts : (id interval code : ℤ) (cents : Cents) → first_fit (reasons (PostGiven id interval code cents) h) ≡ None → Lasts h (made_by (PostGiven id interval code cents) h)
  given_lasts id interval code cents e = under (given_code code)
    where
      of_ciso : party_is_of_ciso h (as_id id) ≡ true
      of_ciso = let none = none_fits (reasons (PostGiven id interval code cents) h) e in grind (arith, none)

      post : GivenCode → Post
      post c = record { key = key_of (OfGiven c) id interval; what = as_given cents }

      under : (o : Option GivenCode) → Lasts h (option_map_or (λ p. put p h) (option_map post o) h)
      under None = (s, none_new h)
      under (Some c) = party_lasts (as_id id) (set (OfGiven c) (slot_index interval) (as_given cents)) (alike_put (post c) h) (λ p. refl) of_ciso
