-- Words of a data file, bytes in rising place, and how a test is counted.
use Rattle.std.specs.Prelude.{ℕ, ◌+◌, ◌*◌, Bool, cond, List, get_or}

-- four bytes, the lowest first
abbrev pub half_at : List ℕ → ℕ → ℕ
half_at s at = get_or s at 0 + 256 * get_or s (at + 1) 0 + 65536 * get_or s (at + 2) 0 + 16777216 * get_or s (at + 3) 0

-- eight bytes, the lowest first
abbrev pub word_at : List ℕ → ℕ → ℕ
word_at s at = half_at s at + 4294967296 * half_at s (at + 4)

-- 1 where a test failed
abbrev pub missed : Bool → ℕ
missed b = cond b 0 1
