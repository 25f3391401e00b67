-- A list of questions has one first no at most, and none where each is answered yes.
use Rattle.std.proofs.Common.{◌≡◌, ℕ, sym, ◌∙◌, ⊎_elim}
use Rattle.lines.specs.Asks.{Asks, none, ask, AllYes, FirstNo}

pub no_first_no : {Q : Type 0} (qs : Asks Q) (q : Q) (m : ℕ) → AllYes qs → FirstNo qs q m → ⊥
no_first_no none q m y n = n
no_first_no (ask p k P qs) q m y n = ⊎_elim (λ f. f.0 y.0) (λ f. no_first_no qs q m y.1 f.1) n

pub one_first_no : {Q : Type 0} (qs : Asks Q) (q r : Q) (m n : ℕ) → FirstNo qs q m → FirstNo qs r n → (q ≡ r) × (m ≡ n)
one_first_no none q r m n f g = absurd f
one_first_no (ask p k P qs) q r m n f g =
    ⊎_elim
    (λ a. ⊎_elim (λ b. (a.1 ∙ sym b.1, a.2 ∙ sym b.2)) (λ b. absurd (a.0 b.0)) g)
    (λ a. ⊎_elim (λ b. absurd (b.0 a.0)) (λ b. one_first_no qs q r m n a.1 b.1) g)
    f
