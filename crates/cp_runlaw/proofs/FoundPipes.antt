-- Pipes that are found in an instance: what holds of them, their names, and the edges of their ends.
use Rattle.std.proofs.Common.{◌≡◌, ℕ, Bool, true, ◌||◌, eqb, List, [], ◌∷◌, length, map, sym, ap, ◌∙◌, subst, inl, inr, ⊎_elim, cond}
use Rattle.std.specs.Prelude.{Some, find}
use Rattle.std.specs.List.{All, flat_map}
use Rattle.std.proofs.lemmas.Bool.{cond_both, eq-eqb, eqb-true, or_cases, or_left, or_right}
use Rattle.std.proofs.lemmas.List.{length-map}
use Rattle.std.proofs.lemmas.List.Elements.{All-head, All-tail}
use Rattle.std.proofs.lemmas.List.Sorted.{length_permutation}
use Rattle.cp_lists.specs.CyclicLists.{Has, Lacks, Distinct}
use Rattle.cp_lists.proofs.DistinctLists.{has_lacks}
use Rattle.cp_board.specs.declared.parts.Pipe.{Pipe}
use Rattle.cp_board.specs.Instances.{Synchronized, IsSynchronized, HasRightPairs, graph, edges_of, edge_names, pipe_in, pipe_names, pipe_named, pipe_at, pipe_with}
use Rattle.cp_board.specs.Steps.{degree, IsEnd}
use Rattle.cp_board.proofs.ListTests.{Distinct-from_test}
use Rattle.cp_board.proofs.NamedLists.{rises_from, distinct_from_rises}

-- what holds of all pipes holds of one that is found
pub All-find : (holds : Pipe → Type 0) (f : Pipe → Bool) (ps : List Pipe) (q : Pipe) → All holds ps → find f ps ≡ Some q
    → holds q
All-find holds f [] q all found = absurd (cc)
All-find holds f (x ∷ xs) q all found =
    cond_both (f x) (Some x) (find f xs) (λ o. o ≡ Some q → holds q)
    (λ e g. let same : x ≡ q = cc in subst holds same (All-head holds x xs all))
    (λ e g. All-find holds f xs q (All-tail holds x xs all) g)
    found

-- one that is found passes the test
pub find-passes : (f : Pipe → Bool) (ps : List Pipe) (q : Pipe) → find f ps ≡ Some q → f q ≡ true
find-passes f [] q found = absurd (cc)
find-passes f (x ∷ xs) q found =
    cond_both (f x) (Some x) (find f xs) (λ o. o ≡ Some q → f q ≡ true)
    (λ e g. let same : x ≡ q = cc in ap f (sym same) ∙ e)
    (λ e g. find-passes f xs q g)
    found

-- one that is found has one of the names
find-Has : (f : Pipe → Bool) (ps : List Pipe) (q : Pipe) → find f ps ≡ Some q → Has q.name (map (λ p. p.name) ps)
find-Has f [] q found = absurd (cc)
find-Has f (x ∷ xs) q found =
    cond_both (f x) (Some x) (find f xs) (λ o. o ≡ Some q → Has q.name (map (λ p. p.name) (x ∷ xs)))
    (λ e g. let same : x ≡ q = cc in inl (ap (λ (z : Pipe). z.name) same))
    (λ e g. inr (find-Has f xs q g))
    found

-- where no two names are equal it is found under its name
pub find-named : (f : Pipe → Bool) (ps : List Pipe) (q : Pipe) → Distinct (map (λ p. p.name) ps) → find f ps ≡ Some q
    → pipe_in ps q.name ≡ Some q
find-named f [] q once found = absurd (cc)
find-named f (x ∷ xs) q once found =
    cond_both (f x) (Some x) (find f xs) (λ o. o ≡ Some q → pipe_in (x ∷ xs) q.name ≡ Some q)
    (λ e g.
    let same : x ≡ q = cc in
    cond_both (eqb x.name q.name) (Some x) (pipe_in xs q.name) (λ o. o ≡ Some q) (λ h. g)
    (λ h. absurd (let t : eqb x.name q.name ≡ true = eq-eqb x.name q.name (ap (λ (z : Pipe). z.name) same) in cc)))
    (λ e g. cond_both (eqb x.name q.name) (Some x) (pipe_in xs q.name) (λ o. o ≡ Some q)
    (λ h. absurd (has_lacks q.name (map (λ p. p.name) xs) (find-Has f xs q g)
    (subst (λ n. Lacks n (map (λ p. p.name) xs)) (eqb-true x.name q.name h) once.0)))
    (λ h. find-named f xs q once.1 g))
    found

-- an end of a pipe with right pairs has as many edges as the pipe has pairs
pub length-right_end : (i : Synchronized) (p : Pipe) (u : ℕ) → HasRightPairs (graph i) p → IsEnd p u
    → length (edges_of i u) ≡ degree p
length-right_end i p u right end =
    ⊎_elim
    (λ (e : p.a ≡ u). subst (λ v. length (edges_of i v) ≡ degree p) e
    (sym (ap length right.first) ∙ length-map p.pairs (λ x. x.0)))
    (λ (e : p.b ≡ u). subst (λ v. length (edges_of i v) ≡ degree p) e
    (sym (length_permutation (edges_of i p.b) (map (λ x. x.1) p.pairs) right.second) ∙ length-map p.pairs (λ x. x.1)))
    end

-- no two edges of an instance have one name
pub edges_distinct : (i : Synchronized) → IsSynchronized i → Distinct (edge_names i)
edges_distinct i is =
    Distinct-from_test (edge_names i) (distinct_from_rises (λ e. e.name) i.edges
    (rises_from (edge_names i) is.edges_named.rise))

-- no two pipes have one name
pub pipes_distinct : (i : Synchronized) → IsSynchronized i → Distinct (pipe_names i)
pipes_distinct i is =
    Distinct-from_test (pipe_names i) (distinct_from_rises (λ p. p.name) i.pipes
    (rises_from (pipe_names i) is.pipes_named.rise))

-- the pipe of a vertex has it as an end
pub pipe_at-end : (i : Synchronized) (v : ℕ) (q : Pipe) → pipe_at i v ≡ Some q → IsEnd q v
pipe_at-end i v q found =
    ⊎_elim
    (λ a. inl (eqb-true q.a v a))
    (λ b. inr (eqb-true q.b v b))
    (or_cases (eqb q.a v) (eqb q.b v) (find-passes (λ x. eqb x.a v || eqb x.b v) i.pipes q found))

-- an end of a pipe that is found is one of all ends
end-Has : (f : Pipe → Bool) (v : ℕ) (ps : List Pipe) (p : Pipe) → find f ps ≡ Some p → IsEnd p v
    → Has v (flat_map (λ q. q.a ∷ q.b ∷ []) ps)
end-Has f v [] p found end = absurd (cc)
end-Has f v (x ∷ xs) p found end =
    cond_both (f x) (Some x) (find f xs) (λ o. o ≡ Some p → Has v (flat_map (λ q. q.a ∷ q.b ∷ []) (x ∷ xs)))
    (λ e g.
    let same : p ≡ x = cc in
    let own : IsEnd x v = subst (λ z. IsEnd z v) same end in
    ⊎_elim (λ a. inl a) (λ b. inr (inl b)) own)
    (λ e g. inr (inr (end-Has f v xs p g end)))
    found

-- where all ends are apart, the pipe of an end of a pipe that is found is this pipe
end-found : (f : Pipe → Bool) (v : ℕ) (ps : List Pipe) (p : Pipe) → Distinct (flat_map (λ q. q.a ∷ q.b ∷ []) ps)
    → find f ps ≡ Some p → IsEnd p v → pipe_with ps v ≡ Some p
end-found f v [] p apart found end = absurd (cc)
end-found f v (x ∷ xs) p apart found end =
    cond_both (f x) (Some x) (find f xs) (λ o. o ≡ Some p → pipe_with (x ∷ xs) v ≡ Some p)
    (λ e g.
    let same : p ≡ x = cc in
    let own : IsEnd x v = subst (λ z. IsEnd z v) same end in
    let passes : (eqb x.a v || eqb x.b v) ≡ true =
    ⊎_elim (λ (a : x.a ≡ v). or_left (eqb x.a v) (eqb x.b v) (eq-eqb x.a v a))
    (λ (b : x.b ≡ v). or_right (eqb x.a v) (eqb x.b v) (eq-eqb x.b v b)) own in
    ap (λ t. cond t (Some x) (pipe_with xs v)) passes ∙ g)
    (λ e g.
    let rest = end-Has f v xs p g end in
    cond_both (eqb x.a v || eqb x.b v) (Some x) (pipe_with xs v) (λ o. o ≡ Some p)
    (λ h. ⊎_elim
    (λ a. absurd (has_lacks v (flat_map (λ q. q.a ∷ q.b ∷ []) xs) rest
    (subst (λ z. Lacks z (flat_map (λ q. q.a ∷ q.b ∷ []) xs)) (eqb-true x.a v a) apart.0.1)))
    (λ b. absurd (has_lacks v (flat_map (λ q. q.a ∷ q.b ∷ []) xs) rest
    (subst (λ z. Lacks z (flat_map (λ q. q.a ∷ q.b ∷ []) xs)) (eqb-true x.b v b) apart.1.0)))
    (or_cases (eqb x.a v) (eqb x.b v) h))
    (λ h. end-found f v xs p apart.1.1 g end))
    found

-- the pipe of an end of a live pipe is this pipe
pub end-pipe_at : (i : Synchronized) (n : ℕ) (p : Pipe) (v : ℕ) → IsSynchronized i → pipe_named i n ≡ Some p → IsEnd p v
    → pipe_at i v ≡ Some p
end-pipe_at i n p v is live end = end-found (λ x. eqb x.name n) v i.pipes p is.ends_apart live end
