-- The answers of a day's hours: one that is written, all the same, the reply for each, and that the replies tell them.
use mathlib.Core.Path.{◌≡◌, refl, ap, ◌∙◌}
use mathlib.Core.List.{List, [], ◌∷◌}
use Prim.Native.Nat.{ℕ, zero, suc, ◌<◌}
use native.Mathlib.Omega.{arith}
use lib.ListN.{length, get_or, set, replicate}
use Rattle.exact.proofs.Apart.{impossible}
use Rattle.tariff.specs.declared.Answer.{Answer}
use Rattle.tariff.specs.Reply.{Reply, told}
use Rattle.tariff.proofs.Demands.{one_reply}
use Rattle.tariff.specs.Total.{told_all}

-- one is written
pub told_set : (l : List Answer) (k : ℕ) (a : Answer) → told_all (set l k a) ≡ set (told_all l) k (told a)
unfolding told_all
told_set [] k a = refl
told_set (p ∷ l) zero a = refl
told_set (p ∷ l) (suc k) a = ap {B = List Reply} (λ r. told p ∷ r) (told_set l k a)

-- every hour has the same answer
pub told_same : (a : Answer) (n : ℕ) → told_all (replicate n a) ≡ replicate n (told a)
unfolding told_all
told_same a zero = refl
told_same a (suc n) = ap {B = List Reply} (λ l. told a ∷ l) (told_same a n)

-- there is a reply for each answer, and it is that answer's
pub told_length : (l : List Answer) (n : ℕ) → length l ≡ n → length (told_all l) ≡ n
unfolding told_all
told_length [] n e = e
told_length (p ∷ ps) n e = ap suc (told_length ps (length ps) refl) ∙ e

pub told_at_lem : (l : List Answer) (k : ℕ) (p : Answer) → k < length l → get_or (told_all l) k (told p) ≡ told (get_or l k p)
unfolding told_all
told_at_lem [] k p h = refl
told_at_lem (x ∷ xs) zero p h = refl
told_at_lem (x ∷ xs) (suc k) p h = told_at_lem xs k p (omega arith)

-- no two different rows of answers tell the same
pub answers_one : (l m : List Answer) → told_all l ≡ told_all m → l ≡ m
unfolding told_all
answers_one [] [] e = refl
answers_one [] (q ∷ m) e = impossible cc
answers_one (p ∷ l) [] e = impossible cc
answers_one (p ∷ l) (q ∷ m) e =
    let first : told p ≡ told q = cc in
    let rest : told_all l ≡ told_all m = cc in
    λ i. one_reply p q _ first refl i ∷ answers_one l m rest i
