-- Decisions at each limit and at the float beside it, proved by computing them: one list, and one theorem over it.
use Rattle.std.specs.Prelude.{◌≡◌, refl, true, false, List, [], ◌∷◌, map, Float}
use Rattle.std.specs.Float.Ieee.{mul, lt, le, of_bits}
use Rattle.floats.specs.Operations.{bits}
use Rattle.signs.specs.Signs.{absolute}
use Rattle.floats.specs.declared.Function.TheVariants.{D, «V»}
use Rattle.branches.specs.declared.Branch.{Branch}
use Rattle.branches.specs.declared.Branch.TheVariants.{Forward, Downward, Scaled}
use Rattle.branches.specs.Branches.{order_is_low, runs_down, branch_of}

-- V from order 0 on
abbrev pub v_above : Float → Float → Branch
v_above x u = branch_of «V» false x u

-- a decision, and the branch that it takes. A pattern that ends in 1 is the float next to a limit, further from 0.
abbrev pub examples : List (Branch × Branch)
examples =
    -- D below order 0, at u = −1: −0.0, 0 and the next above 0; 2 and the next above 2
    (branch_of D true (bits 0x8000_0000_0000_0000) (bits 0xbff0_0000_0000_0000), Forward) ∷
    (branch_of D true (bits 0) (bits 0xbff0_0000_0000_0000), Forward) ∷
    (branch_of D true (bits 1) (bits 0xbff0_0000_0000_0000), Downward) ∷
    (branch_of D true (bits 0x4000_0000_0000_0000) (bits 0xbff0_0000_0000_0000), Downward) ∷
    (branch_of D true (bits 0x4000_0000_0000_0001) (bits 0xbff0_0000_0000_0000), Scaled) ∷
    -- V from order 0 on: the next below 0 and −0.0, at u = 1; 0 ≤ −0.0 holds
    (v_above (bits 0x8000_0000_0000_0001) (bits 0x3ff0_0000_0000_0000), Forward) ∷
    (v_above (bits 0x8000_0000_0000_0000) (bits 0x3ff0_0000_0000_0000), Downward) ∷
    -- 7.5 at the u next above 28.125 = 7.5²/2; the next above 7.5 at u = 50 and at u = 28.125
    (v_above (bits 0x401e_0000_0000_0000) (bits 0x403c_2000_0000_0001), Downward) ∷
    (v_above (bits 0x401e_0000_0000_0001) (bits 0x4049_0000_0000_0000), Scaled) ∷
    (v_above (bits 0x401e_0000_0000_0001) (bits 0x403c_2000_0000_0000), Downward) ∷
    -- 10 at u = 50 = 10²/2 and at the next u; the next above 10 at u = 50
    (v_above (bits 0x4024_0000_0000_0000) (bits 0x4049_0000_0000_0000), Downward) ∷
    (v_above (bits 0x4024_0000_0000_0000) (bits 0x4049_0000_0000_0001), Scaled) ∷
    (v_above (bits 0x4024_0000_0000_0001) (bits 0x4049_0000_0000_0000), Scaled) ∷
    -- −10 at u = 50 and at the next u; the next below −10 at u = 50
    (v_above (bits 0xc024_0000_0000_0000) (bits 0x4049_0000_0000_0000), Downward) ∷
    (v_above (bits 0xc024_0000_0000_0000) (bits 0x4049_0000_0000_0001), Forward) ∷
    (v_above (bits 0xc024_0000_0000_0001) (bits 0x4049_0000_0000_0000), Forward) ∷
    -- −7.5 at u = 28.125 and at the next u
    (v_above (bits 0xc01e_0000_0000_0000) (bits 0x403c_2000_0000_0000), Downward) ∷
    (v_above (bits 0xc01e_0000_0000_0000) (bits 0x403c_2000_0000_0001), Forward) ∷
    -- D from order 0 on at the next above 2, u = 1; V below order 0 at the next above 7.5, u = −1
    (branch_of D false (bits 0x4000_0000_0000_0001) (bits 0x3ff0_0000_0000_0000), Forward) ∷
    (branch_of «V» true (bits 0x401e_0000_0000_0001) (bits 0xbff0_0000_0000_0000), Forward) ∷
    []

abbrev pub computed : List Branch
computed = map (λ (e : Branch × Branch). e.0) examples

abbrev pub values : List Branch
values = map (λ (e : Branch × Branch). e.1) examples

pub examples_hold : computed ≡ values
unfolding branch_of runs_down order_is_low absolute of_bits mul lt le
examples_hold = refl
