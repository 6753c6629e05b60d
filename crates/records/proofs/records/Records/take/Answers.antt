use Rattle.std.proofs.Common.{rules, ◌≡◌, sym, subst}
use Rattle.records.specs.Sound.{Sound, Grows}
use Rattle.records.specs.Calls.{answer_to}
use Rattle.records.proofs.SoundAfter.{lasts_left, sound_left}
use Rattle.records.specs.Kept.{KeepsRecords}
use Rattle.records.proofs.Standing.{stands_left, keeps_records}
use Rattle.records.proofs.records.Records.take.Goals as goal
use Rattle.records.proofs.records.Records.take.Goals.{After-dispatch}

sound_before : (c : After-dispatch) → Sound c.args.self.now
sound_before c = subst Sound c.self.view_is c.self.invariant

pub returns-clause-sound : goal.returns-clause-sound
returns-clause-sound c =
    let k = (goal.at.returns-clause-sound c).After-dispatch in
    sound_left k.args.call (sound_before k) k.dispatch.ensures.records

pub returns-clause-grows : goal.returns-clause-grows
returns-clause-grows c =
    let k = (goal.at.returns-clause-grows c).After-dispatch in
    subst (Grows k.args.self.now) (sym k.dispatch.ensures.records) (lasts_left k.args.call k.args.self.now (sound_before k)).1

pub returns-clause-stands : goal.returns-clause-stands
returns-clause-stands c =
    let k = (goal.at.returns-clause-stands c).After-dispatch in
    let answer : c.answer_at.result ≡ answer_to k.args.call k.args.self.now = search rules in
    stands_left k.args.call k.args.self.now k.dispatch.new.self c.answer_at.result answer k.dispatch.ensures.records (sound_before k)

pub returns-clause-kept : goal.returns-clause-kept
returns-clause-kept c =
    let k = (goal.at.returns-clause-kept c).After-dispatch in
    subst (KeepsRecords k.args.call k.args.self.now) (sym k.dispatch.ensures.records) (keeps_records k.args.call k.args.self.now (sound_before k))
