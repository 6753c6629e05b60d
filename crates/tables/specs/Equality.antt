-- What `==` and `Clone` of a type say. Assumes nothing.
use Rattle.std.specs.Prelude.{◌≡◌, Bool, true}

-- `==` is equality
abbrev pub IsEquality : {T : Type 0} → (T → T → Bool) → Type 0
IsEquality {T} eq = (a b : T) → (eq a b ≡ true → a ≡ b) × (a ≡ b → eq a b ≡ true)

-- a clone is the value itself
abbrev pub IsCopying : {T : Type 0} → (T → T → Type 0) → Type 0
IsCopying {T} is_clone = (a b : T) → is_clone a b → b ≡ a

-- both
abbrev pub IsExact : {T : Type 0} → (T → T → Bool) → (T → T → Type 0) → Type 0
IsExact eq is_clone = IsEquality eq × IsCopying is_clone
