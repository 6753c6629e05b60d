use Rattle.std.proofs.Common.{◌≡◌, ap, true≢false, [], ◌++◌, ◌<◌, length, take, Result, Ok, Err, arith, append-nil}
use Rattle.std.specs.Result.{OnOk, is_ok}
use Rattle.std.specs.Io.KnownBytes.{Consumes}
use Rattle.std.proofs.KnownBytes.{Appends-nil, Consumes-nil, Consumes-trans, Consumes-kept}
use Rattle.reader.specs.Promised.{full_book}
use Rattle.reader.proofs.Printed.{printed_more, printed}
use Rattle.reader.proofs.program.print_input.Goals as goal
use Rattle.reader.proofs.program.print_input.Goals.{in-Ok+in_ok-map_err-in-Ok, in-Err}

pub loop-init : goal.loop-init
loop-init g c =
    ([], [], c.requires.at_start, Consumes-nil (g.R.Read.remaining c.args.input.now), Appends-nil (g.W.Write.contents c.args.out.now))

-- what a success tells still holds where only the error becomes another
on_ok_still : {T E D : Type 0} (P : Type 0) (r : Result T E) (s : Result T D) → is_ok s ≡ is_ok r → OnOk r P → OnOk s P
on_ok_still P (Ok x) (Ok y) as_one p = p
on_ok_still P (Err e) (Ok y) as_one p = absurd (true≢false as_one)
on_ok_still P r (Err d) as_one p = tt

pub loop-preserved : goal.loop-preserved
loop-preserved g c =
    let (input, outcomes, led, read, told) = c.loop.invariant in
    elim c.match-read.branch [
      | in-Ok+in_ok-map_err-in-Ok w ↦
          let bytes = take w.in-Ok.count c.read.new.buf in
          let fed =
          rw w.in_ok-map_err-in-Ok.was at (on_ok_still _ w.feed.result w.map_err-in-Ok.result w.map_err-in-Ok.ensures.variant w.feed.ensures) in
          rw (w.reader-is, w.out-is) (
            input ++ bytes,
            outcomes ++ fed.outcomes,
            fed.led full_book input outcomes led,
            Consumes-trans _ _ _ input bytes read w.in-Ok.ensures.bytes.0,
            printed_more full_book input c.loop.reader w.feed.new.reader outcomes _ _ _ led told bytes fed,
          )
      | in-Err w ↦ rw (w.reader-is, w.out-is) (input, outcomes, led, Consumes-kept _ _ _ input read w.in-Err.ensures.bytes, told)
    ]

both_on_ok : {T E P Q S : Type 0} (r : Result T E) → (P → Q → S) → OnOk r P → OnOk r Q → OnOk r S
both_on_ok (Ok x) f p q = f p q
both_on_ok (Err e) f p q = tt

pub returns-in-Ok-eq0-clause-printed : goal.returns-in-Ok-eq0-clause-printed
returns-in-Ok-eq0-clause-printed g c =
    let (input, outcomes, led, read, told) = c.loop.invariant in
    let left = g.R.Read.remaining c.read.new.self in
    let (got, end) = rw c.in-Ok-eq0.is at c.read.ensures.bytes in
    let room : 0 < length c.read.new.buf = omega arith in
    let none : take c.in-Ok-eq0.field-0 c.read.new.buf ≡ [] = ap (λ n. take n c.read.new.buf) c.in-Ok-eq0.field-0-test in
    let all : Consumes (g.R.Read.remaining c.args.input.now) left input =
    rw (none, append-nil) at (Consumes-trans _ _ _ input _ read got) in
    on_ok_still _ c.finish.result c.map_err.result c.map_err.ensures.variant
    (both_on_ok c.finish.result
    (λ fin promises. printed input c.loop.reader c.finish.new.reader outcomes _ left _ _ _ all (end c.in-Ok-eq0.field-0-test room) led told fin promises)
    c.finish.ensures.finished c.finish.ensures.promises)
