-- The stored answers (README.md): which of them our functions give.
use Rattle.std.specs.Prelude.{ℕ, zero, suc, ◌+◌, ◌*◌, ◌%◌, Bool, cond, List, length, take, drop, ◌==◌, nat_le, Float}
use Rattle.signs.specs.Signs.{alike}
use Rattle.floats.specs.Operations.{bits}
use Rattle.stored_records.specs.Words.{word_at, missed}
use Rattle.stored_answers.specs.Floats.{floats_answer}
use Rattle.stored_answers.specs.Elementary.{elementary_answer}
use Rattle.stored_answers.specs.StartSums.{start_sums_answer}
use Rattle.stored_answers.specs.Tables.{tables_answer}
use Rattle.stored_answers.specs.Expansion.{expansion_answer}

-- number n at x and y: those up to 10 are the small functions, those up to 18 the elementary functions, those up to 23
-- gamma2 and the start sums, and of the rest those whose last digit to the base 256 is up to 25 the table calls, the
-- others the expansion and the Maclaurin series
unfoldable pub answer : ℕ → Float → Float → Float
answer n x y =
    cond (nat_le n 10) (floats_answer n x y)
    (cond (nat_le n 18) (elementary_answer n x y)
    (cond (nat_le n 23) (start_sums_answer n x y) (cond (nat_le (n % 256) 25) (tables_answer n x y) (expansion_answer n x y))))

-- whether the function of a record answers what the record holds
unfoldable pub held : List ℕ → Bool
held s = alike (answer (word_at s 0) (bits (word_at s 8)) (bits (word_at s 16))) (bits (word_at s 24))

-- how many of the first n records of s differ
unfoldable pub differing : List ℕ → ℕ → ℕ
differing s zero = 0
differing s (suc n) = differing s n + missed (held (take 32 (drop (32 * n) s)))

-- 1 where s has bytes left over after its last whole record
abbrev pub left_over : List ℕ → ℕ
left_over s = missed (length s % 32 == 0)
