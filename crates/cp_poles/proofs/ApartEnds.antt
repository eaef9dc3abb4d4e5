-- The ends of a pipe are no ends of the others.
use Rattle.std.proofs.Common.{◌≡◌, ◌≢◌, ℕ, Bool, false, not, ◌||◌, eqb, List, [], ◌∷◌, sym, ap, ◌∙◌, subst, ⊎_elim}
use Rattle.std.specs.Prelude.{Some, find, filter}
use Rattle.std.specs.List.{All, flat_map}
use Rattle.std.proofs.lemmas.Bool.{cases_Bool, cond-true, cond-false}
use Rattle.std.proofs.lemmas.List.Elements.{All-nil, All-cons, All-filter}
use Rattle.cp_lists.specs.CyclicLists.{Distinct, Lacks}
use Rattle.cp_board.specs.declared.parts.Pipe.{Pipe}
use Rattle.cp_board.specs.Names.{has}
use Rattle.cp_poles.proofs.FoundItems.{All-found, Some-same}

-- no end of q is one of p
abbrev pub Apart : Pipe → Pipe → Type 0
Apart p q = (q.a ≢ p.a) × (q.a ≢ p.b) × (q.b ≢ p.a) × (q.b ≢ p.b)

-- the ends of all pipes
abbrev pub ends_of_all : List Pipe → List ℕ
ends_of_all ps = flat_map (λ p. p.a ∷ p.b ∷ []) ps

-- the pipe has another name
abbrev other : ℕ → Pipe → Bool
other n q = not (has (n ∷ []) q.name)

-- where the ends of p are no ends of any of the pipes, each pipe is apart from p
apart_from : (p : Pipe) (qs : List Pipe) → Lacks p.a (ends_of_all qs) → Lacks p.b (ends_of_all qs)
    → All (λ q. Apart p q) qs
apart_from p [] la lb = All-nil (λ q. Apart p q)
apart_from p (q ∷ qs) la lb =
    All-cons (λ z. Apart p z) q qs (la.0, lb.0, la.1.0, lb.1.0) (apart_from p qs la.1.1 lb.1.1)

-- to be apart goes both ways
apart_sym : (p q : Pipe) → Apart p q → Apart q p
apart_sym p q h = ((λ e. h.0 (sym e)), (λ e. h.2 (sym e)), (λ e. h.1 (sym e)), (λ e. h.3 (sym e)))

-- the ends of the pipe of a name are apart from those of all others
pub others_apart : (n : ℕ) (p : Pipe) (ps : List Pipe) → Distinct (ends_of_all ps)
    → find (λ x. eqb x.name n) ps ≡ Some p
    → All (λ q. Apart p q) (filter (other n) ps)
others_apart n p [] once found = All-nil (λ q. Apart p q)
others_apart n p (x ∷ xs) once found =
    ⊎_elim
    (λ b.
    let same : x ≡ p = Some-same x p
    (sym (cond-true (eqb x.name n) (Some x) (find (λ z. eqb z.name n) xs) b) ∙ found) in
    let rest = All-filter (other n) (λ q. Apart x q) xs (apart_from x xs once.0.1 once.1.0) in
    subst (λ z. All (λ q. Apart z q) (filter (other n) (x ∷ xs))) same
    (subst (All (λ q. Apart x q))
    (sym (cond-false (other n x) (x ∷ filter (other n) xs) (filter (other n) xs)
    (ap (λ c. not (c || false)) b))) rest))
    (λ b.
    let later = sym (cond-false (eqb x.name n) (Some x) (find (λ z. eqb z.name n) xs) b) ∙ found in
    let near = (All-found (λ z. eqb z.name n) (λ q. Apart x q) xs p (apart_from x xs once.0.1 once.1.0) later).0 in
    subst (All (λ q. Apart p q))
    (sym (cond-true (other n x) (x ∷ filter (other n) xs) (filter (other n) xs) (ap (λ c. not (c || false)) b)))
    (All-cons (λ q. Apart p q) x (filter (other n) xs) (apart_sym x p near) (others_apart n p xs once.1.1 later)))
    (cases_Bool (eqb x.name n))
