use Rattle.std.proofs.Common.{◌≡◌, ◌<◌, ◌≤◌, ◌+◌, ◌++◌, ℕ, suc, List, ◌∷◌, length, take, drop, get_or, set, refl, sym, ap, ◌∙◌, append_assoc, append-nil, arith}
use Rattle.std.proofs.lemmas.List.{drop_more, drop_all, take_all, take_more_set, drop-set-lt, length-set}
use Rattle.std.proofs.lemmas.List.Elements.{All-push}
use Rattle.deemed.specs.Ranges.{hour_length}
use Rattle.rows.specs.declared.figures.DeemedEnergy.{DeemedEnergy}
use Rattle.rows.specs.declared.resource.Resource.{Resource}
use Rattle.rows.specs.Posted.{with_energies, with_table}
use Rattle.records.proofs.records.put_deemed.Goals as goal

-- one resource more with its energies, which is y
put_more : (resources : List Resource) (i : ℕ) (r : Resource) (energies : List DeemedEnergy) (rows : List (List DeemedEnergy)) (y : Resource) → i < length resources
    → y ≡ with_energies energies (get_or resources i r)
    → take i resources ++ with_table (energies ∷ rows) (drop i resources) ≡ take (i + 1) (set resources i y) ++ with_table rows (drop (i + 1) (set resources i y))
put_more resources i r energies rows y inside is =
    rw (drop_more resources i r inside, take_more_set resources i y inside, drop-set-lt (i + 1) resources i y (omega arith), append_assoc, is) refl

-- none is left
all_put : (resources whole : List Resource) (i : ℕ) (rows : List (List DeemedEnergy)) → length resources ≤ i
    → whole ≡ take i resources ++ with_table rows (drop i resources) → resources ≡ whole
all_put resources whole i rows all is = sym (rw (take_all i resources all, drop_all i resources all, append-nil) at is)

pub loop-i-preserved : goal.loop-i-preserved
loop-i-preserved c =
    let before = c.loop-i.invariant in
    let h = c.in-Some.ensures.steps in
    let resources : List Resource = c.loop-i.resources in
    let i : ℕ = c.loop-i.i-iterator.iter.count in
    let rows : List (List DeemedEnergy) = c.next.new.self.iter.iter.rest.now in
    let y : Resource = c.set_deemed.new.self in
    let inside : i < length resources = omega arith in
    let rows_before : length c.loop-i.i-iterator.iter.iter.rest.now ≡ suc (length rows) = ap length h.0.0 in
    rw (h.0.1, h.0.2) (record {
      put_so_far =
          before.put_so_far ∙ ap (λ l. take i resources ++ with_table l (drop i resources)) h.0.0
          ∙ put_more resources i c.index-resources-i.result c.in-Some.energies.now rows y inside (rw h.0.1 at c.set_deemed.ensures.deemed);
      whole = rw (take_more_set resources i y inside) (All-push (λ r. length r.deemed ≡ hour_length) (take i resources) y before.whole c.set_deemed.ensures.whole);
      resources_left = rw length-set (omega arith);
      rows_left = omega (arith, rows_before);
    })

pub returns-clause-deemed : goal.returns-clause-deemed
returns-clause-deemed c =
    let h = c.in-None.ensures.steps in
    all_put c.loop-i.resources _ c.loop-i.i-iterator.iter.count c.loop-i.i-iterator.iter.iter.rest.now (grind arith) c.loop-i.invariant.put_so_far

pub returns-clause-whole : goal.returns-clause-whole
returns-clause-whole c =
    let h = c.in-None.ensures.steps in
    let all : length c.loop-i.resources ≤ c.loop-i.i-iterator.iter.count = grind arith in
    rw (take_all c.loop-i.i-iterator.iter.count c.loop-i.resources all) at c.loop-i.invariant.whole
