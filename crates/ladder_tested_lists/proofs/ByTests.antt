-- The reader by its three tests, in any words that say what each finds.
use Rattle.std.proofs.Common.{◌≡◌, refl, sym, ap, ◌∙◌, subst, List, ◌⊎◌, inl, inr, ◌↔◌, ℕ, Bool, true, false, true≢false, not, ◌||◌, cond, length, T, arith, Float}
use Rattle.std.proofs.Math.Option.{some}
use Rattle.std.specs.Float.{binary64}
use Rattle.std.specs.Float.Ieee.{fits}
use Rattle.floats.specs.Operations.{◌⊕◌, bits, whole}
use Rattle.branches.specs.Branches.{runs_forward}
use Rattle.ladder_machine.specs.declared.Held.{Held}
use Rattle.ladder_machine.specs.Machine.{Machine, empty, holds, bits_of, too_short}
use Rattle.ladder_machine.specs.Held.{counts_empty, held_forward, machine_of}
use Rattle.ladder_machine.proofs.Laws.{reason, by_reason, machine_empty, machine_held, held_forward_is, room, no_room}
use Rattle.ladder_machine.proofs.Tests.{bits_back}
use Rattle.ladder_reader.specs.declared.Column.{Column}
use Rattle.ladder_reader.specs.declared.Column.TheVariants.{Values, Derivatives}
use Rattle.ladder_tested_reader.specs.Tested.{holds_rungs, tested, column_held, tested_part}
use Rattle.ladder_tested_reader.proofs.Tests.{number_is, lent, not_lent}
use Rattle.ladder_tested_lists.specs.TestedLists.{NotForwardHeld, NotForward, top, TooShort, named, Reads}

not_back : (b : Bool) → not b ≡ true → b ≡ false
not_back true e = absurd (true≢false (sym e))
not_back false e = refl

or_right : (b : Bool) → (b || true) ≡ true
or_right true = refl
or_right false = refl

-- ---- the number by the outcomes, and what each outcome says

abbrev number_by : Bool → Bool → Bool → ℕ
number_by a b c = cond a 6 (cond b 3 (cond c 0 7))

module _ (A B C : Type 0) (a b c : Bool) (first : (a ≡ true) ↔ A) (second : a ≡ false → (b ≡ true) ↔ B) (third : a ≡ false → b ≡ false → (c ≡ true) ↔ C) where
  -- none of three numbers is the fourth
  record By (n : ℕ) : Type 0 where
    pub six : (n ≡ 6) ↔ A
    pub three : (n ≡ 3) ↔ ((¬ A) × B)
    pub lends : (n ≡ 0) ↔ ((¬ A) × (¬ B) × C)
    pub seven : (n ≡ 7) ↔ ((¬ A) × (¬ B) × (¬ C))
    pub no_other : (n ≡ 6) ⊎ (n ≡ 3) ⊎ (n ≡ 0) ⊎ (n ≡ 7)

  by : By (number_by a b c)
  by = go a refl b refl c refl
    where
      no : (x : Bool) → x ≡ false → x ≡ true → ⊥
      no x e f = true≢false (sym f ∙ e)

      go : (x : Bool) → a ≡ x → (y : Bool) → b ≡ y → (z : Bool) → c ≡ z → By (number_by x y z)
      go true ea y eb z ec = record {
        six = ((λ _. first.0 ea), (λ _. refl));
        three = ((λ e. absurd (omega (arith, e))), (λ p. absurd (p.0 (first.0 ea))));
        lends = ((λ e. absurd (omega (arith, e))), (λ p. absurd (p.0 (first.0 ea))));
        seven = ((λ e. absurd (omega (arith, e))), (λ p. absurd (p.0 (first.0 ea))));
        no_other = inl refl;
      }
      go false ea true eb z ec = record {
        six = ((λ e. absurd (omega (arith, e))), (λ p. absurd (no a ea (first.1 p))));
        three = ((λ _. ((λ p. no a ea (first.1 p)), (second ea).0 eb)), (λ _. refl));
        lends = ((λ e. absurd (omega (arith, e))), (λ p. absurd (p.1 ((second ea).0 eb))));
        seven = ((λ e. absurd (omega (arith, e))), (λ p. absurd (p.1 ((second ea).0 eb))));
        no_other = inr (inl refl);
      }
      go false ea false eb true ec = record {
        six = ((λ e. absurd (omega (arith, e))), (λ p. absurd (no a ea (first.1 p))));
        three = ((λ e. absurd (omega (arith, e))), (λ p. absurd (no b eb ((second ea).1 p.1))));
        lends = ((λ _. ((λ p. no a ea (first.1 p)), (λ p. no b eb ((second ea).1 p)), (third ea eb).0 ec)), (λ _. refl));
        seven = ((λ e. absurd (omega (arith, e))), (λ p. absurd (p.2 ((third ea eb).0 ec))));
        no_other = inr (inr (inl refl));
      }
      go false ea false eb false ec = record {
        six = ((λ e. absurd (omega (arith, e))), (λ p. absurd (no a ea (first.1 p))));
        three = ((λ e. absurd (omega (arith, e))), (λ p. absurd (no b eb ((second ea).1 p.1))));
        lends = ((λ e. absurd (omega (arith, e))), (λ p. absurd (no c ec ((third ea eb).1 p.2))));
        seven = ((λ _. ((λ p. no a ea (first.1 p)), (λ p. no b eb ((second ea).1 p)), (λ p. no c ec ((third ea eb).1 p)))), (λ _. refl));
        no_other = inr (inr (inr refl));
      }

-- ---- a state's three tests

module _ (h : Held) where
  -- the machine begun with it, whose x and f are read back from their bits
  forward_tells : (machine : Machine) → machine_of h ≡ machine → (counts_empty h ≡ false → T (fits binary64 h.sequence.x) × T (fits binary64 h.sequence.f))
      → ((counts_empty h || not (held_forward h)) ≡ true) ↔ NotForward machine
  forward_tells machine is known = go (counts_empty h) refl
    where
      go : (b : Bool) → counts_empty h ≡ b → ((counts_empty h || not (held_forward h)) ≡ true) ↔ NotForward machine
      go true e =
          let m : empty ≡ machine = sym (machine_empty h e) ∙ is in
          ((λ _. subst NotForward m tt), (λ _. rw e))
      go false e =
          let r = h.sequence in
          let m : holds r.function r.below (bits_of r.x) (bits_of r.f) h.n ≡ machine = sym (machine_held h e) ∙ is in
          let f : runs_forward r.function r.below (bits (bits_of r.x)) (whole h.n ⊕ bits (bits_of r.f)) ≡ held_forward h =
          rw (bits_back r.x (known e).0, bits_back r.f (known e).1) (sym (held_forward_is h)) in (
            (λ u. subst NotForward m (f ∙ not_back (held_forward h) (rw e at u))),
            (λ n. let g : held_forward h ≡ false = sym f ∙ subst NotForward (sym m) n in rw (e, g)),
          )

  forward_held_law : (counts_empty h || not (held_forward h)) ≡ false → (counts_empty h ≡ false) × (held_forward h ≡ true)
  forward_held_law = go (counts_empty h) (held_forward h)
    where
      go : (a b : Bool) → (a || not b) ≡ false → (a ≡ false) × (b ≡ true)
      go true b e = absurd (true≢false e)
      go false true e = (refl, refl)
      go false false e = absurd (true≢false e)

  top_held : (machine : Machine) → machine_of h ≡ machine → counts_empty h ≡ false → top machine ≡ h.n
  top_held machine is e = ap top (sym is ∙ machine_held h e)

  short_tells : (values derivatives : List Float) → (too_short h.n (length values) (length derivatives) ≡ true) ↔ TooShort h.n values derivatives
  short_tells values derivatives = (no_room h.n (length values) (length derivatives), back)
    where
      go : (b : Bool) → too_short h.n (length values) (length derivatives) ≡ b → TooShort h.n values derivatives
          → too_short h.n (length values) (length derivatives) ≡ true
      go true s t = s
      go false s (inl t) = absurd (omega (arith, (room h.n (length values) (length derivatives) s).0, t))
      go false s (inr t) = absurd (omega (arith, (room h.n (length values) (length derivatives) s).1, t))

      back : TooShort h.n values derivatives → too_short h.n (length values) (length derivatives) ≡ true
      back t = go (too_short h.n (length values) (length derivatives)) refl t

  -- the first test in a state's own words
  own_forward_tells : ((counts_empty h || not (held_forward h)) ≡ true) ↔ NotForwardHeld h
  own_forward_tells = (there (counts_empty h) refl, back)
    where
      there : (b : Bool) → counts_empty h ≡ b → (counts_empty h || not (held_forward h)) ≡ true → NotForwardHeld h
      there true e u = inl (reason h e)
      there false e u = inr (sym (held_forward_is h) ∙ not_back (held_forward h) (rw e at u))

      back : NotForwardHeld h → (counts_empty h || not (held_forward h)) ≡ true
      back (inl e) = rw (by_reason h e)
      back (inr e) = let f : held_forward h ≡ false = held_forward_is h ∙ e in rw f (or_right (counts_empty h))

-- ---- the reader on a state, in any words for the first test, and with any word for n that is right where it does not count as empty

module _ (h : Held) (A : Type 0) (n : ℕ) (first : ((counts_empty h || not (held_forward h)) ≡ true) ↔ A) (same : counts_empty h ≡ false → n ≡ h.n)
    (values derivatives : List Float) (right : Type 0)
    (tells : counts_empty h ≡ false → held_forward h ≡ true → too_short h.n (length values) (length derivatives) ≡ false
    → (holds_rungs h.sequence h.n values derivatives ≡ true) ↔ right) where
  abbrev unread : Bool
  unread = counts_empty h || not (held_forward h)

  short : unread ≡ false → (too_short h.n (length values) (length derivatives) ≡ true) ↔ TooShort n values derivatives
  short e = rw (same (forward_held_law h e).0) (short_tells h values derivatives)

  third : unread ≡ false → too_short h.n (length values) (length derivatives) ≡ false → (holds_rungs h.sequence h.n values derivatives ≡ true) ↔ right
  third e s = let f = forward_held_law h e in tells f.0 f.1 s

  found : By A (TooShort n values derivatives) right unread (too_short h.n (length values) (length derivatives)) (holds_rungs h.sequence h.n values derivatives) first short third
      (tested h values derivatives)
  found = rw (number_is h values derivatives) (by _ _ _ _ _ _ _ _ _)

  -- a column is lent of a state that does not count as empty
  read : tested h values derivatives ≡ 0 → counts_empty h ≡ false
  read e = (forward_held_law h (go unread refl)).0
    where
      go : (b : Bool) → unread ≡ b → unread ≡ false
      go true u = absurd ((found.lends.0 e).0 (first.0 u))
      go false u = u

  columns : (which : Column) → counts_empty h ≡ false → column_held which h.n values derivatives ≡ named which n values derivatives
  unfolding column_held
  columns Values e = rw (same e)
  columns Derivatives e = rw (same e)

  pub reads : (which : Column)
      → Reads A (TooShort n values derivatives) right (named which n values derivatives) (tested h values derivatives) (tested_part which h values derivatives)
  reads which = record {
    six = found.six;
    three = found.three;
    lends = found.lends;
    seven = found.seven;
    no_other = found.no_other;
    part_lent = λ e. lent which h values derivatives e ∙ ap some (columns which (read e));
    no_part = not_lent which h values derivatives;
  }

-- in the machine's words
module _ (h : Held) (machine : Machine) (is : machine_of h ≡ machine) (known : counts_empty h ≡ false → T (fits binary64 h.sequence.x) × T (fits binary64 h.sequence.f))
    (values derivatives : List Float) (right : Type 0)
    (tells : counts_empty h ≡ false → held_forward h ≡ true → too_short h.n (length values) (length derivatives) ≡ false
    → (holds_rungs h.sequence h.n values derivatives ≡ true) ↔ right) where
  pub reads_machine : (which : Column)
      → Reads (NotForward machine) (TooShort (top machine) values derivatives) right (named which (top machine) values derivatives)
      (tested h values derivatives)
      (tested_part which h values derivatives)
  reads_machine = reads h (NotForward machine) (top machine) (forward_tells h machine is known) (top_held h machine is) values derivatives right tells

-- in the state's own
module _ (h : Held) (values derivatives : List Float) (right : Type 0)
    (tells : counts_empty h ≡ false → held_forward h ≡ true → too_short h.n (length values) (length derivatives) ≡ false
    → (holds_rungs h.sequence h.n values derivatives ≡ true) ↔ right) where
  pub reads_held : (which : Column)
      → Reads (NotForwardHeld h) (TooShort h.n values derivatives) right (named which h.n values derivatives)
      (tested h values derivatives)
      (tested_part which h values derivatives)
  reads_held = reads h (NotForwardHeld h) h.n (own_forward_tells h) (λ e. refl) values derivatives right tells
