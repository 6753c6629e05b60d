use Rattle.std.proofs.Common.{rules, ◌≡◌, sym, subst}
use Rattle.records.specs.View.{Hour}
use Rattle.records.specs.Hours.{opened}
use Rattle.records.specs.Sound.{Sound}
use Rattle.records.specs.Kept.{LastStands}
use Rattle.records.proofs.SoundAfter.{steps_keep_sound}
use Rattle.records.proofs.Standing.{last_stands}
use Rattle.records.proofs.records.Records.open.Goals as goal

pub returns-clause-lasting : goal.returns-clause-lasting
returns-clause-lasting c = steps_keep_sound

pub returns-clause-kept : goal.returns-clause-kept
returns-clause-kept c =
    let empty : Hour = opened c.args.areas c.args.parties c.args.resources in
    let hour : Hour = record { areas = c.in_ok-areas.areas; parties = c.in_ok-parties.parties; resources = c.in_ok-resources.resources } in
    let is : hour ≡ empty = search rules in
    let sound : Sound hour = search rules in
    subst LastStands (sym is) (last_stands c.args.areas c.args.parties c.args.resources (subst Sound is sound))
