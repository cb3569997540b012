-- S10.3: a stage has one line, however often the plan's checks list it, and the lines ascend.
use Prim.Native.Nat.{ℕ, zero, suc, ◌+◌, ◌<◌, ◌≤◌}
use mathlib.Core.Path.{◌≡◌, refl, sym, ◌∙◌}
use mathlib.Core.Bool.{Bool, true, false}
use mathlib.Core.Logic.{◌⊎◌, inl, inr, ⊎_elim}
use mathlib.Core.List.{List, [], ◌∷◌, ◌++◌, append-nil, append_assoc}
use native.Mathlib.Omega.{arith}
use native.Mathlib.Nat.{eq-or-lt_of_le}
use Rattle.model.proofs.TestLaws.{never}
use Rattle.model.specs.Problem.{Problem, Cell, ◌∈◌, here, there}
use Rattle.model.specs.Questions.{ascending}
use Rattle.layout.proofs.Shapes.{ascending-none, ascending-first, ascending-put}
use Rattle.listing.specs.Listing.{state_line, reached, state_lines, lines_of, EachOnce}

equal-or-less : (t n : ℕ) → t < suc n → (t ≡ n) ⊎ (t < n)
equal-or-less t n l = eq-or-lt_of_le (omega arith)

-- behind a list that ascends below n may stand what ascends from n on
ascending-behind : (more : List ℕ) (n low : ℕ) (ts : List ℕ) →
    ((from : ℕ) → from ≤ n → ascending 1 from (suc n) more ≡ true) →
    low ≤ n → ascending 1 low n ts ≡ true → ascending 1 low (suc n) (ts ++ more) ≡ true
ascending-behind more n low [] goes le h = goes low le
ascending-behind more n low (t ∷ ts) goes le h =
    let (above, below, later) = ascending-first 1 low n t ts h in
    ascending-put 1 low (suc n) t (ts ++ more) above (omega arith) (ascending-behind more n (t + 1) ts goes (omega arith) later)

-- the members of a list with one more behind it
in-front : {t : ℕ} {ts : List ℕ} (us : List ℕ) → t ∈ ts → t ∈ (ts ++ us)
in-front us here = here
in-front us (there m) = there (in-front us m)

at_end : (ts : List ℕ) (t : ℕ) → t ∈ (ts ++ t ∷ [])
at_end [] t = here
at_end (u ∷ ts) t = there (at_end ts t)

either : (ts : List ℕ) (n t : ℕ) → t ∈ (ts ++ n ∷ []) → (t ∈ ts) ⊎ (t ≡ n)
either [] n t here = inr refl
either [] n t (there m) = absurd (elim m [ ])
either (u ∷ ts) n t here = inl here
either (u ∷ ts) n t (there m) = ⊎_elim (λ k. inl (there k)) (λ e. inr e) (either ts n t m)

module _ (p : Problem) (cells : List Cell) where
  lines-last : (ts : List ℕ) (n : ℕ) → lines_of p cells (ts ++ n ∷ []) ≡ lines_of p cells ts ++ state_line p cells n
  unfolding lines_of
  lines-last [] n = append-nil (state_line p cells n)
  lines-last (t ∷ ts) n =
      rw (lines-last ts n) (sym (append_assoc (state_line p cells t) (lines_of p cells ts) (state_line p cells n)))

  -- one stage more, with a line or without one
  module _ (n : ℕ) (h : EachOnce p cells n) where
    with-line : reached p cells n ≡ true → EachOnce p cells (suc n)
    unfolding state_lines
    with-line e = record {
      on = h.on ++ n ∷ [];
      lines = rw (e, h.lines) (sym (lines-last h.on n));
      rising = ascending-behind (n ∷ []) n 0 h.on
          (λ from le. ascending-put 1 from (suc n) n [] le (omega arith) (ascending-none 1 (n + 1) (suc n))) (omega arith) h.rising;
      only_reached = λ t m. ⊎_elim (λ k. h.only_reached t k) (λ is. rw is e) (either h.on n t m);
      each_reached = λ t l r.
          ⊎_elim (λ is. rw is (at_end h.on n)) (λ less. in-front (n ∷ []) (h.each_reached t less r)) (equal-or-less t n l);
    }

    without-line : reached p cells n ≡ false → EachOnce p cells (suc n)
    unfolding state_lines
    without-line e = record {
      on = h.on;
      lines = rw e (append-nil (state_lines p cells n) ∙ h.lines);
      rising = rw append-nil at (ascending-behind [] n 0 h.on (λ from le. ascending-none 1 from (suc n)) (omega arith) h.rising);
      only_reached = h.only_reached;
      each_reached = λ t l r. ⊎_elim (λ is. never (sym e ∙ (rw is at r))) (λ less. h.each_reached t less r) (equal-or-less t n l);
    }

    one_more : (b : Bool) → reached p cells n ≡ b → EachOnce p cells (suc n)
    one_more true = with-line
    one_more false = without-line

  pub each-once : (n : ℕ) → EachOnce p cells n
  unfolding state_lines lines_of
  each-once zero = record {
    on = [];
    lines = refl;
    rising = ascending-none 1 0 0;
    only_reached = λ t m. absurd (elim m [ ]);
    each_reached = λ t l r. absurd (omega arith);
  }
  each-once (suc n) = one_more n (each-once n) (reached p cells n) refl
