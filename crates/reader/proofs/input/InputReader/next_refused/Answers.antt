use Rattle.std.proofs.Common.{◌<◌, ◌∷◌, length, Some, ap, arith}
use Rattle.std.proofs.lemmas.List.{length-append}
use Rattle.words.specs.Texts.{Cut}
use Rattle.reader.proofs.ReadingOn.{read_on_by_none, read_on_by_both}
use Rattle.reader.proofs.Leading.{last_read, line_read, rest_read}
use Rattle.reader.proofs.input.InputReader.next_refused.Goals as goal
use Rattle.reader.proofs.input.InputReader.next_refused.Goals.{After-end_line}

apart : (c : After-end_line) → Cut 10 c.loop-after.rest.now c.cut.result.0.now (Some c.in-Some.after.now)
apart c = rw c.in-Some.is at c.cut.ensures

shorter : (c : After-end_line) → length c.in-Some.after.now < length c.loop-after.rest.now
shorter c = omega (arith, ap length (apart c).1, length-append c.cut.result.0.now (10 ∷ c.in-Some.after.now))

pub loop-after-init : goal.loop-after-init
loop-after-init c = read_on_by_none c.args.bytes.now c.args.self.now

pub loop-after-preserved : goal.loop-after-preserved
loop-after-preserved c =
    read_on_by_both _ _ _ _ _ _ _ _ c.loop-after.invariant
    (line_read (apart (goal.at.loop-after-preserved c).After-end_line) c.in_default-end_line.ensures)

pub loop-after-smaller : goal.loop-after-smaller
loop-after-smaller c = shorter (goal.at.loop-after-smaller c).After-end_line

pub returns-in-Some-end_line : goal.returns-in-Some-end_line
returns-in-Some-end_line c =
    let read = c.loop-after.invariant in
    let at = (goal.at.returns-in-Some-end_line c).After-end_line in (
      read_on_by_both _ _ _ _ _ _ _ _ read (line_read (apart at) c.in-Some-end_line.ensures),
      last_read c.in-Some-end_line.ensures,
      c.in-Some-end_line.ensures.begun,
      omega (arith, shorter at, ap length read.parts, length-append read.front c.loop-after.rest.now),
    )

pub returns-in_default : goal.returns-in_default
returns-in_default c =
    read_on_by_both _ _ _ _ _ _ _ _ c.loop-after.invariant
    (rest_read (rw c.in_default.is at c.cut.ensures) c.begin.ensures.lines c.begin.ensures.number c.begin.ensures.begun)
