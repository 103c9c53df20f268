-- Values of the series of dvsa and vvsa, turn by turn. gamma2 is shut here, so each turn takes its value from the list of examples of `gamma`.
use Rattle.std.proofs.Common.{◌≡◌, ap, ◌∙◌, true, false, ℕ, Float}
use Rattle.std.specs.Float.Ieee.{add, sub, mul, div, neg, lt, of_bits, of_int}
use Rattle.std.specs.Float.{nan}
use Rattle.floats.proofs.Examples.{entry_of}
use Rattle.floats.specs.Operations.{bits, decimal, f0, f1}
use Rattle.signs.specs.Signs.{absolute}
use Rattle.floats.specs.Loops.{Turn, count_up}
use Rattle.gamma.specs.Gamma.{gamma2}
use Rattle.gamma.specs.Gamma.Examples as gamma
use Rattle.start_sums_small.specs.SmallSums.{dvsa_turn, dvsa_sum, vvsa_turn, vvsa_sum}

abbrev small : Float
small = decimal 9765625 10

abbrev half : Float
half = decimal 5 1

abbrev two : Float
two = decimal 2 0

-- ---- the series of dvsa at va = 0.5, of 5 terms: gamma2 at −0.25, 0.25, 0.75, 1.25, 1.75 and 2.25

dvsa_1 : dvsa_turn small half 1 (f1, bits 0xc013_9b4e_8b50_f62c) ≡ (false, (bits 0xbf56_a09e_667f_3bcd, bits 0xc013_a06f_27bb_3626))
unfolding dvsa_turn absolute add sub mul div neg lt of_bits decimal of_int
dvsa_1 = rw (entry_of gamma.examples_hold 19 nan)

dvsa_2 : dvsa_turn small half 2 (bits 0xbf56_a09e_667f_3bcd, bits 0xc013_a06f_27bb_3626) ≡ (false, (bits 0x3eb0_0000_0000_0001, bits 0xc013_a06e_d94d_fbf9))
unfolding dvsa_turn absolute add sub mul div neg lt of_bits decimal of_int
dvsa_2 = rw (entry_of gamma.examples_hold 20 nan)

dvsa_3 : dvsa_turn small half 3 (bits 0x3eb0_0000_0000_0001, bits 0xc013_a06e_d94d_fbf9) ≡ (false, (bits 0xbdfe_2b7d_ddfe_fa68, bits 0xc013_a06e_d954_d21f))
unfolding dvsa_turn absolute add sub mul div neg lt of_bits decimal of_int
dvsa_3 = rw (entry_of gamma.examples_hold 21 nan)

dvsa_4 : dvsa_turn small half 4 (bits 0xbdfe_2b7d_ddfe_fa68, bits 0xc013_a06e_d954_d21f) ≡ (false, (bits 0x3d45_5555_5555_5557, bits 0xc013_a06e_d954_d182))
unfolding dvsa_turn absolute add sub mul div neg lt of_bits decimal of_int
dvsa_4 = rw (entry_of gamma.examples_hold 22 nan)

dvsa_5 : dvsa_turn small half 5 (bits 0x3d45_5555_5555_5557, bits 0xc013_a06e_d954_d182) ≡ (true, (bits 0xbc88_22cb_17ff_2eba, bits 0xc013_a06e_d954_d182))
unfolding dvsa_turn absolute add sub mul div neg lt of_bits decimal of_int
dvsa_5 = rw (entry_of gamma.examples_hold 23 nan)

-- the turns that are left, after an equal turn
dvsa_left : (n m : ℕ) {t u : Turn (Float × Float)} → t ≡ u → (count_up (dvsa_turn small half) n m t).1 ≡ (count_up (dvsa_turn small half) n m u).1
dvsa_left n m e = ap (λ (t : Turn (Float × Float)). (count_up (dvsa_turn small half) n m t).1) e

pub dvsa_five_terms : (dvsa_sum small half (gamma2 (neg (decimal 25 2)))).1 ≡ bits 0xc013_a06e_d954_d182
unfolding dvsa_sum count_up
dvsa_five_terms =
    ap (λ (g : Float). (dvsa_sum small half g).1) (entry_of gamma.examples_hold 18 nan)
    ∙ dvsa_left 249 2 dvsa_1 ∙ dvsa_left 248 3 dvsa_2 ∙ dvsa_left 247 4 dvsa_3 ∙ dvsa_left 246 5 dvsa_4 ∙ dvsa_left 245 6 dvsa_5

-- ---- the series of vvsa at va = 2, of 6 terms, where the weight is 0 at each pole: gamma2 at −0.5, 0, 0.5, 1, 1.5 and 2

vvsa_1 : vvsa_turn small two (neg f1) 1 (f1, f1, f0) ≡ (false, (bits 0x3f56_a09e_667f_3bcd, neg f1, bits 0xbf84_0d93_1ff6_2706))
unfolding vvsa_turn absolute add sub mul div neg lt of_bits decimal of_int
vvsa_1 = rw (entry_of gamma.examples_hold 12 nan)

vvsa_2 : vvsa_turn small two (neg f1) 2 (bits 0x3f56_a09e_667f_3bcd, neg f1, bits 0xbf84_0d93_1ff6_2706) ≡ (false, (bits 0x3eb0_0000_0000_0001, f1, bits 0xbf84_0d93_1ff6_2706))
unfolding vvsa_turn absolute add sub mul div neg lt of_bits decimal of_int
vvsa_2 = rw (entry_of gamma.examples_hold 6 nan)

vvsa_3 : vvsa_turn small two (neg f1) 3 (bits 0x3eb0_0000_0000_0001, f1, bits 0xbf84_0d93_1ff6_2706) ≡ (false, (bits 0x3dfe_2b7d_ddfe_fa68, neg f1, bits 0xbf84_0d92_ea7c_9eb1))
unfolding vvsa_turn absolute add sub mul div neg lt of_bits decimal of_int
vvsa_3 = rw (entry_of gamma.examples_hold 11 nan)

vvsa_4 : vvsa_turn small two (neg f1) 4 (bits 0x3dfe_2b7d_ddfe_fa68, neg f1, bits 0xbf84_0d92_ea7c_9eb1) ≡ (false, (bits 0x3d45_5555_5555_5557, f1, bits 0xbf84_0d92_ea7c_9eb1))
unfolding vvsa_turn absolute add sub mul div neg lt of_bits decimal of_int
vvsa_4 = rw (entry_of gamma.examples_hold 1 nan)

vvsa_5 : vvsa_turn small two (neg f1) 5 (bits 0x3d45_5555_5555_5557, f1, bits 0xbf84_0d92_ea7c_9eb1) ≡ (false, (bits 0x3c88_22cb_17ff_2eba, neg f1, bits 0xbf84_0d92_ea7c_9e86))
unfolding vvsa_turn absolute add sub mul div neg lt of_bits decimal of_int
vvsa_5 = rw (entry_of gamma.examples_hold 14 nan)

vvsa_6 : vvsa_turn small two (neg f1) 6 (bits 0x3c88_22cb_17ff_2eba, neg f1, bits 0xbf84_0d92_ea7c_9e86) ≡ (true, (bits 0x3bc6_c16c_16c1_6c19, f1, bits 0xbf84_0d92_ea7c_9e86))
unfolding vvsa_turn absolute add sub mul div neg lt of_bits decimal of_int
vvsa_6 = rw (entry_of gamma.examples_hold 2 nan)

vvsa_left : (n m : ℕ) {t u : Turn (Float × Float × Float)} → t ≡ u → (count_up (vvsa_turn small two (neg f1)) n m t).2 ≡ (count_up (vvsa_turn small two (neg f1)) n m u).2
vvsa_left n m e = ap (λ (t : Turn (Float × Float × Float)). (count_up (vvsa_turn small two (neg f1)) n m t).2) e

pub vvsa_six_terms : (vvsa_sum small two (neg f1) f0).2 ≡ bits 0xbf84_0d92_ea7c_9e86
unfolding vvsa_sum count_up
vvsa_six_terms =
    vvsa_left 249 2 vvsa_1 ∙ vvsa_left 248 3 vvsa_2 ∙ vvsa_left 247 4 vvsa_3 ∙ vvsa_left 246 5 vvsa_4 ∙ vvsa_left 245 6 vvsa_5 ∙ vvsa_left 244 7 vvsa_6
