-- The range of a tag's figures, and the length of an hour. Assumes nothing.
use Rattle.std.specs.Prelude.{ℕ}

-- in kW, either way
abbrev pub most_kw : ℕ
most_kw = 10000000

-- in telemetry steps
abbrev pub most_telemetry : ℕ
most_telemetry = 100000000

-- in settlement intervals
abbrev pub hour_length : ℕ
hour_length = 12
