-- What is kept of the records that are posted. Assumes nothing.
use Rattle.std.specs.Prelude.{◌≡◌, IfSome, List, [], ◌∷◌, Option, Some, None}
use Rattle.std.specs.Option.{option_and_then}
use Rattle.tables.specs.Refusals.{first_fit, state_after}
use Rattle.rows.specs.Records.{Record, unposted}
use Rattle.records.specs.declared.call.Call.{Call}
use Rattle.records.specs.View.{Hour}
use Rattle.records.specs.Keys.{Key, read, said_of}
use Rattle.records.specs.Calls.{reasons, post_of, hour_after}

-- what stands: what was said, or else what stood
abbrev pub now_stands : {X : Type 0} → Option X → X → X
now_stands (Some x) stood = x
now_stands None stood = stood

-- what a call says of a key; a refused one says nothing
abbrev pub said_by : (key : Key) → Call → Hour → Option (Record key.kind)
said_by key call h = state_after (first_fit (reasons call h)) (option_and_then (said_of key) (post_of call)) None

-- From what is read under a key to what is read after a call that says this of it: what was said, or else what was read.
-- Nothing is said of a slot that is not there; in a slot that is new stands what stands where nothing was posted.
abbrev pub IsNext : {X : Type 0} → X → Option X → Option X → Option X → Type 0
IsNext new said (Some stood) after = after ≡ Some (now_stands said stood)
IsNext new said None after = (said ≡ None) × IfSome after (λ x. x ≡ new)

abbrev pub KeepsRecords : Call → Hour → Hour → Type 0
KeepsRecords call before after =
    (key : Key) → IsNext (unposted key.kind) (said_by key call before) (read key before) (read key after)

-- the records after calls in turn, each accepted or refused
abbrev pub after : List Call → Hour → Hour
after [] h = h
after (call ∷ calls) h = after calls (hour_after call h)

-- what the last accepted post under a key said, or what stood before them all
abbrev pub last_said : (key : Key) → List Call → Hour → Record key.kind → Record key.kind
last_said key [] h stood = stood
last_said key (call ∷ calls) h stood = last_said key calls (hour_after call h) (now_stands (said_by key call h) stood)

-- What is read after any calls is what the last accepted post under the key said, whole, or what stands where nothing was posted.
abbrev pub LastStands : Hour → Type 0
LastStands h =
    (calls : List Call) (key : Key) → IfSome (read key (after calls h)) (λ x. x ≡ last_said key calls h (unposted key.kind))
