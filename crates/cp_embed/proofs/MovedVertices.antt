-- A vertex moved into another, with the edges between them.
use Rattle.std.proofs.Common.{◌≡◌, ℕ, ◌*◌, List, [], ◌∷◌, ◌++◌, append_assoc, sym, refl, ap, ◌∙◌, subst, inl, inr, ⊎_elim}
use Rattle.cp_lists.specs.CyclicLists.{Distinct, Has, Lacks}
use Rattle.cp_lists.specs.Rows.{flat}
use Rattle.cp_lists.specs.Turns.{IsTurn}
use Rattle.cp_lists.proofs.DistinctLists.{Distinct-apart_right, Distinct-append_right, Has-append_cases, Has-append_left, Has-append_right, Lacks-from, has_lacks}
use Rattle.cp_lists.proofs.TurnedLists.{turn_parts}
use Rattle.cp_faces.specs.Twins.{twin}
use Rattle.cp_maps.specs.Genus.{Becomes, SameGenus}
use Rattle.cp_maps.specs.Maps.{IsMapOf}
use Rattle.cp_maps.specs.Mirrors.{mirror}
use Rattle.cp_maps.proofs.ContractedEdges.{expanded_vertex-Becomes}
use Rattle.cp_maps.proofs.Genus.{SameGenus-sym, SameGenus-trans}
use Rattle.cp_maps.proofs.MapLists.{IsMapOf-swap, IsMapOf-turn}
use Rattle.cp_maps.proofs.ParallelEdges.{parallel_edges-SameGenus}
use Rattle.cp_embed.proofs.Lists.{mirror-append}

-- a vertex moved along a bundle of edges into another: the genus stays
pub moved_vertex-SameGenus : (e : ℕ) (f g : ℕ → ℕ) (o : ℕ) (os is ks : List ℕ) (rows : List (List ℕ))
    → IsMapOf (2 * e) f ((o ∷ (os ++ is)) ∷ (twin o ∷ (ks ++ mirror os)) ∷ rows)
    → IsMapOf (2 * e) g ((is ++ ks) ∷ rows) → SameGenus e f g
moved_vertex-SameGenus e f g o os is ks rows is_f is_g =
    let mine : List ℕ = o ∷ (os ++ is) in
    let theirs : List ℕ = twin o ∷ (ks ++ mirror os) in
    let far : Lacks (twin o) mine = Distinct-apart_right (twin o) mine (flat (theirs ∷ rows)) is_f.once (inl refl) in
    let rest : Distinct (twin o ∷ ((ks ++ mirror os) ++ flat rows)) = Distinct-append_right mine
    (flat (theirs ∷ rows)) is_f.once in
    let back : (d : ℕ) → Has d ks → Has d ((ks ++ mirror os) ++ flat rows) = λ d h. Has-append_left d
    (ks ++ mirror os) (flat rows) (Has-append_left d ks (mirror os) h) in
    let behind : (d : ℕ) → Has d (flat rows) → Has d ((ks ++ mirror os) ++ flat rows) = λ d h. Has-append_right d
    (ks ++ mirror os) (flat rows) h in
    let h : Becomes e g ((o ∷ is) ∷ (twin o ∷ ks) ∷ rows) = expanded_vertex-Becomes e g o is ks rows is_g is_f.below.0
    (Lacks-from o ((is ++ ks) ++ flat rows) (λ k. ⊎_elim
    (λ l. ⊎_elim
    (λ m. has_lacks o ((os ++ is) ++ flat (theirs ∷ rows))
    (Has-append_left o (os ++ is) (flat (theirs ∷ rows)) (Has-append_right o os is m)) is_f.once.0)
    (λ m. has_lacks o ((os ++ is) ++ flat (theirs ∷ rows))
    (Has-append_right o (os ++ is) (flat (theirs ∷ rows)) (inr (back o m))) is_f.once.0)
    (Has-append_cases o is ks l))
    (λ l. has_lacks o ((os ++ is) ++ flat (theirs ∷ rows))
    (Has-append_right o (os ++ is) (flat (theirs ∷ rows)) (inr (behind o l))) is_f.once.0)
    (Has-append_cases o (is ++ ks) (flat rows) k)))
    (Lacks-from (twin o) ((is ++ ks) ++ flat rows) (λ k. ⊎_elim
    (λ l. ⊎_elim
    (λ m. has_lacks (twin o) mine (inr (Has-append_right (twin o) os is m)) far)
    (λ m. has_lacks (twin o) ((ks ++ mirror os) ++ flat rows) (back (twin o) m) rest.0)
    (Has-append_cases (twin o) is ks l))
    (λ l. has_lacks (twin o) ((ks ++ mirror os) ++ flat rows) (behind (twin o) l) rest.0)
    (Has-append_cases (twin o) (is ++ ks) (flat rows) k))) in
    SameGenus-trans e f h.0 g (parallel_edges-SameGenus e f h.0 o os is ks rows is_f h.1) (SameGenus-sym e g h.0 h.2)

-- the lists as a step reads them, turned to begin with that edge
pub run_turned-IsMapOf : (n : ℕ) (f : ℕ → ℕ) (o : ℕ) (os is row us vs : List ℕ) (rows : List (List ℕ))
    → IsTurn row (is ++ o ∷ os) → IsMapOf n f (row ∷ (us ++ (mirror (o ∷ os) ++ vs)) ∷ rows)
    → IsMapOf n f ((o ∷ (os ++ is)) ∷ (twin o ∷ ((vs ++ us) ++ mirror os)) ∷ rows)
run_turned-IsMapOf n f o os is row us vs rows turn is_f =
    let after : List ℕ = us ++ (mirror (o ∷ os) ++ vs) in
    let one : IsMapOf n f ((o ∷ (os ++ is)) ∷ after ∷ rows) = IsMapOf-turn n f (is ++ o ∷ os) (o ∷ (os ++ is))
    (after ∷ rows) (turn_parts is (o ∷ os)) (IsMapOf-turn n f row (is ++ o ∷ os) (after ∷ rows) turn is_f) in
    let reads : after ≡ (us ++ mirror os) ++ twin o ∷ vs =
    ap (λ ws. us ++ (ws ++ vs)) (mirror-append (o ∷ []) os)
    ∙ ap (λ ws. us ++ ws) (append_assoc (mirror os) (twin o ∷ []) vs)
    ∙ sym (append_assoc us (mirror os) (twin o ∷ vs)) in
    let two : IsMapOf n f ((twin o ∷ (vs ++ (us ++ mirror os))) ∷ (o ∷ (os ++ is)) ∷ rows) = IsMapOf-turn n f
    ((us ++ mirror os) ++ twin o ∷ vs) (twin o ∷ (vs ++ (us ++ mirror os))) ((o ∷ (os ++ is)) ∷ rows)
    (turn_parts (us ++ mirror os) (twin o ∷ vs))
    (subst (λ ws. IsMapOf n f (ws ∷ (o ∷ (os ++ is)) ∷ rows)) reads
    (IsMapOf-swap n f (o ∷ (os ++ is)) after rows one)) in
    IsMapOf-swap n f (twin o ∷ ((vs ++ us) ++ mirror os)) (o ∷ (os ++ is)) rows
    (subst (λ ws. IsMapOf n f ((twin o ∷ ws) ∷ (o ∷ (os ++ is)) ∷ rows)) (sym (append_assoc vs us (mirror os))) two)

-- what stands between us and vs exchanged, and the vertex moved: the genus stays
pub run_exchanged-SameGenus : (e : ℕ) (f g : ℕ → ℕ) (o : ℕ) (os is row us vs : List ℕ) (rows : List (List ℕ))
    → IsTurn row (is ++ o ∷ os) → IsMapOf (2 * e) f (row ∷ (us ++ (mirror (o ∷ os) ++ vs)) ∷ rows)
    → IsMapOf (2 * e) g ((us ++ (is ++ vs)) ∷ rows) → SameGenus e f g
run_exchanged-SameGenus e f g o os is row us vs rows turn is_f is_g =
    moved_vertex-SameGenus e f g o os is (vs ++ us) rows (run_turned-IsMapOf (2 * e) f o os is row us vs rows turn is_f)
    (subst (λ ws. IsMapOf (2 * e) g (ws ∷ rows)) (append_assoc is vs us)
    (IsMapOf-turn (2 * e) g (us ++ (is ++ vs)) ((is ++ vs) ++ us) rows (turn_parts us (is ++ vs)) is_g))
