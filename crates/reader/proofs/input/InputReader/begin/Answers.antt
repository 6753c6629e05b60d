use Rattle.std.proofs.Common.{◌≡◌, ◌∙◌, ◌++◌, ◌+◌, take, length, arith, sym, ap, Result, Ok, Err}
use Rattle.std.specs.Result.{IsOk, OnOk}
use Rattle.std.proofs.lemmas.List.{take_min, length-take}
use Rattle.std.proofs.Math.Seq.{take-append-add}
use Rattle.reader.specs.Feeding.{most_kept}
use Rattle.reader.proofs.input.InputReader.begin.Goals as goal

at_ok : {X E P : Type 0} (r : Result X E) → IsOk r → OnOk r P → P
at_ok (Ok x) is h = h
at_ok (Err e) is h = absurd (cc)

pub returns-clause-begun : goal.returns-clause-begun
returns-clause-begun c =
    let begun = c.args.self.now.begun.items in
    let bytes = c.args.bytes.now in
    let room = c.remaining_capacity.result in
    let whole : length begun + room ≡ most_kept = omega arith in
    let extended = c.try_extend_from_slice.ensures in
    let fits = extended.variant.1 (omega (arith, length-take c.min-room.result bytes)) in
    at_ok c.try_extend_from_slice.result fits extended.ok
    ∙ ap (λ n. begun ++ take n bytes) c.min-room.ensures
    ∙ ap (λ l. begun ++ l) (take_min room bytes)
    ∙ sym (take-append-add begun bytes room)
    ∙ ap (λ n. take n (begun ++ bytes)) whole
