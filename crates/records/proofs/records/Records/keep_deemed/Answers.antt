use Rattle.std.proofs.Common.{◌≡◌, ◌≤◌, length, sym, subst, ap, ◌∙◌, arith}
use Rattle.std.specs.List.{All}
use Rattle.deemed.specs.Ranges.{hour_length}
use Rattle.tables.specs.View.{Table}
use Rattle.rows.specs.declared.resource.Resource.{Resource}
use Rattle.records.specs.View.{Hour}
use Rattle.records.specs.Hours.{with_deemed}
use Rattle.records.specs.Keys.{Key, read}
use Rattle.records.specs.Sound.{Sound, Grows}
use Rattle.records.proofs.Deemed.{sound_deemed, grows_deemed, read_deemed}
use Rattle.records.proofs.records.Records.keep_deemed.Goals as goal
use Rattle.records.proofs.records.Records.keep_deemed.Goals.{After-keep_rows}

-- the hour with a table of resources
abbrev with_resources : After-keep_rows → Table Resource → Hour
with_resources c resources = record { areas = c.self.inside.areas; parties = c.self.inside.parties; resources = resources }

abbrev before : After-keep_rows → Hour
before c = with_resources c c.self.inside.resources

abbrev after : After-keep_rows → Hour
after c = with_resources c c.keep_rows.new.resources

enough : (c : After-keep_rows) → length c.self.inside.resources.rows ≤ length c.args.table.now
enough c = let table = c.self.invariant.resources in omega (arith, table.within_room, table.bound)

kept : (c : After-keep_rows) → after c ≡ with_deemed c.args.table.now (before c)
kept c = ap (with_resources c) c.keep_rows.ensures.rows

left_sound : (c : After-keep_rows) → Sound (after c)
left_sound c =
    let whole = subst (λ t. All (λ r. length r.deemed ≡ hour_length) t.rows) c.keep_rows.ensures.rows c.keep_rows.ensures.whole in
    subst Sound (sym (kept c)) (sound_deemed c.args.table.now (before c) (enough c) whole c.self.invariant)

pub invariant_of-self : goal.invariant_of-self
invariant_of-self c = left_sound (goal.at.invariant_of-self c).After-keep_rows

pub returns-clause-sound : goal.returns-clause-sound
returns-clause-sound c = left_sound (goal.at.returns-clause-sound c).After-keep_rows

pub returns-clause-grows : goal.returns-clause-grows
returns-clause-grows c =
    let k = (goal.at.returns-clause-grows c).After-keep_rows in
    let grows = subst (Grows (before k)) (sym (kept k)) (grows_deemed k.args.table.now (before k) (enough k)) in
    subst (λ h. Grows h (after k)) k.self.view_is grows

pub returns-clause-kept : goal.returns-clause-kept
returns-clause-kept c =
    let k = (goal.at.returns-clause-kept c).After-keep_rows in
    let same : (key : Key) → read key (after k) ≡ read key (before k) =
    λ key. ap (read key) (kept k) ∙ read_deemed k.args.table.now (before k) (enough k) key.kind key.id key.index in
    subst (λ h. (key : Key) → read key (after k) ≡ read key h) k.self.view_is same
