-- The vertices and pipes that a rewrite keeps.
use Rattle.std.proofs.Common.{◌≡◌, ℕ, ◌+◌, ◌<◌, true, false, not, List, [], ◌∷◌, ◌++◌, length, map, take, slice_index_or, sym, refl, ap, ◌∙◌}
use Rattle.std.specs.Prelude.{filter}
use Rattle.std.specs.Option.{option_map_or}
use Rattle.std.proofs.lemmas.Bool.{cond-true, cond-false}
use Rattle.std.proofs.lemmas.List.{append-nil, append_assoc, map-append, take_more}
use Rattle.std.proofs.lemmas.List.Elements.{filter-append, filter_agree}
use Rattle.cp_lists.specs.CyclicLists.{Distinct}
use Rattle.cp_board.specs.declared.parts.Vert.{Vert}
use Rattle.cp_board.specs.declared.parts.Pipe.{Pipe}
use Rattle.cp_board.specs.Names.{has, by_name}
use Rattle.cp_board.specs.Instances.{names_of_verts}
use Rattle.cp_board.specs.Changes.{verts_by_name}
use Rattle.cp_board.specs.Rewrites.{with_kinds}
use Rattle.cp_board.proofs.NamedLists.{under-by_name}
use Rattle.cp_sync.specs.Rewriting.{kept_verts, kept_pipes}
use Rattle.cp_sync.proofs.NamedOrder.{distinct-from, has-by_number}

-- of two lists what is kept of the first and then what is kept of the second
pub kept_verts-append : (dropped : List ℕ) (kinds us vs : List Vert)
    → kept_verts dropped kinds (us ++ vs) ≡ kept_verts dropped kinds us ++ kept_verts dropped kinds vs
kept_verts-append dropped kinds us vs =
    ap (map (with_kinds kinds)) (filter-append (λ (v : Vert). not (has dropped v.name)) us vs)
    ∙ map-append (with_kinds kinds) (filter (λ v. not (has dropped v.name)) us) (filter (λ v. not (has dropped v.name)) vs)

-- one vertex more, kept or dropped
pub kept_verts-more : (dropped : List ℕ) (kinds vs : List Vert) (k : ℕ) (v : Vert) (out : List Vert) → k < length vs
    → v ≡ slice_index_or vs k v
    → has dropped v.name ≡ false
    → (out ++ kept_verts dropped kinds (take k vs)) ++ with_kinds kinds v ∷ []
    ≡ out ++ kept_verts dropped kinds (take (k + 1) vs)
kept_verts-more dropped kinds vs k v out lt is f =
    append_assoc out (kept_verts dropped kinds (take k vs)) (with_kinds kinds v ∷ [])
    ∙ ap (λ ws. out ++ ws)
    (ap (λ ws. kept_verts dropped kinds (take k vs) ++ map (with_kinds kinds) ws) (sym (cond-true (not (has dropped v.name)) (v ∷ []) [] (ap not f)))
    ∙ sym (kept_verts-append dropped kinds (take k vs) (v ∷ []))
    ∙ ap (kept_verts dropped kinds) (sym (take_more vs k v lt ∙ ap (λ x. take k vs ++ x ∷ []) (sym is))))

-- a vertex that is dropped adds nothing to those that are kept
pub kept_verts-less : (dropped : List ℕ) (kinds vs : List Vert) (k : ℕ) (v : Vert) → k < length vs
    → v ≡ slice_index_or vs k v
    → has dropped v.name ≡ true
    → kept_verts dropped kinds (take k vs) ≡ kept_verts dropped kinds (take (k + 1) vs)
kept_verts-less dropped kinds vs k v lt is t =
    sym (append-nil (kept_verts dropped kinds (take k vs)))
    ∙ ap (λ ws. kept_verts dropped kinds (take k vs) ++ map (with_kinds kinds) ws) (sym (cond-false (not (has dropped v.name)) (v ∷ []) [] (ap not t)))
    ∙ sym (kept_verts-append dropped kinds (take k vs) (v ∷ []))
    ∙ ap (kept_verts dropped kinds) (sym (take_more vs k v lt ∙ ap (λ x. take k vs ++ x ∷ []) (sym is)))

-- one pipe more, kept or dropped
pub kept_pipes-more : (dropped : List ℕ) (ps : List Pipe) (k : ℕ) (p : Pipe) (out : List Pipe) → k < length ps
    → p ≡ slice_index_or ps k p
    → has dropped p.name ≡ false
    → (out ++ kept_pipes dropped (take k ps)) ++ p ∷ [] ≡ out ++ kept_pipes dropped (take (k + 1) ps)
kept_pipes-more dropped ps k p out lt is f =
    append_assoc out (kept_pipes dropped (take k ps)) (p ∷ [])
    ∙ ap (λ qs. out ++ qs)
    (ap (λ qs. kept_pipes dropped (take k ps) ++ qs) (sym (cond-true (not (has dropped p.name)) (p ∷ []) [] (ap not f)))
    ∙ sym (filter-append (λ (q : Pipe). not (has dropped q.name)) (take k ps) (p ∷ []))
    ∙ ap (kept_pipes dropped) (sym (take_more ps k p lt ∙ ap (λ x. take k ps ++ x ∷ []) (sym is))))

-- a pipe that is dropped adds nothing to those that are kept
pub kept_pipes-less : (dropped : List ℕ) (ps : List Pipe) (k : ℕ) (p : Pipe) → k < length ps
    → p ≡ slice_index_or ps k p
    → has dropped p.name ≡ true
    → kept_pipes dropped (take k ps) ≡ kept_pipes dropped (take (k + 1) ps)
kept_pipes-less dropped ps k p lt is t =
    sym (append-nil (kept_pipes dropped (take k ps)))
    ∙ ap (λ qs. kept_pipes dropped (take k ps) ++ qs) (sym (cond-false (not (has dropped p.name)) (p ∷ []) [] (ap not t)))
    ∙ sym (filter-append (λ (q : Pipe). not (has dropped q.name)) (take k ps) (p ∷ []))
    ∙ ap (kept_pipes dropped) (sym (take_more ps k p lt ∙ ap (λ x. take k ps ++ x ∷ []) (sym is)))

-- changes of vertices that agree on each make the same lists
map_agree : (f g : Vert → Vert) → ((v : Vert) → f v ≡ g v) → (vs : List Vert) → map f vs ≡ map g vs
map_agree f g agree [] = refl
map_agree f g agree (v ∷ vs) = ap (λ w. w ∷ map f vs) (agree v) ∙ ap (λ ws. g v ∷ ws) (map_agree f g agree vs)

-- the order of the dropped names and of the kinds that are set does not matter
pub kept_verts-in_order : (dropped : List ℕ) (kinds vs : List Vert) → Distinct (names_of_verts kinds)
    → kept_verts (by_name (λ (n : ℕ). n) dropped) (verts_by_name kinds) vs ≡ kept_verts dropped kinds vs
kept_verts-in_order dropped kinds vs once =
    ap (map (with_kinds (verts_by_name kinds)))
    (filter_agree (λ (v : Vert). not (has (by_name (λ (n : ℕ). n) dropped) v.name)) (λ (v : Vert). not (has dropped v.name)) (λ v. ap not (has-by_number v.name dropped)) vs)
    ∙ map_agree (with_kinds (verts_by_name kinds)) (with_kinds kinds)
    (λ v. ap (λ o. option_map_or (λ (k : Vert). k) o v) (under-by_name (λ (k : Vert). k.name) v.name kinds (distinct-from (names_of_verts kinds) once)))
    (filter (λ v. not (has dropped v.name)) vs)

-- and for the kept pipes the order of the dropped names does not matter either
pub kept_pipes-in_order : (dropped : List ℕ) (ps : List Pipe)
    → kept_pipes (by_name (λ (n : ℕ). n) dropped) ps ≡ kept_pipes dropped ps
kept_pipes-in_order dropped ps =
    filter_agree (λ (p : Pipe). not (has (by_name (λ (n : ℕ). n) dropped) p.name)) (λ (p : Pipe). not (has dropped p.name)) (λ p. ap not (has-by_number p.name dropped)) ps

-- what is kept, where dropped names and kinds are given in their order
kept_verts-given : (dropped : List ℕ) (kinds vs : List Vert) (d : List ℕ) (k : List Vert)
    → Distinct (names_of_verts kinds)
    → d ≡ by_name (λ (n : ℕ). n) dropped
    → k ≡ verts_by_name kinds
    → kept_verts d k vs ≡ kept_verts dropped kinds vs
kept_verts-given dropped kinds vs d k once is_d is_k =
    ap (λ e. kept_verts e k vs) is_d
    ∙ ap (λ ks. kept_verts (by_name (λ (n : ℕ). n) dropped) ks vs) is_k
    ∙ kept_verts-in_order dropped kinds vs once

-- the vertices of an instance and then new ones, kept one list after the other
pub kept_verts-whole : (dropped : List ℕ) (kinds us vs : List Vert) (d e : List ℕ)
    (k l given out out_us out_vs : List Vert)
    → Distinct (names_of_verts kinds)
    → d ≡ by_name (λ (n : ℕ). n) dropped
    → e ≡ by_name (λ (n : ℕ). n) dropped
    → k ≡ verts_by_name kinds
    → l ≡ verts_by_name kinds
    → given ≡ vs
    → out ≡ []
    → out_us ≡ out ++ kept_verts d k us
    → out_vs ≡ out_us ++ kept_verts e l given
    → out_vs ≡ kept_verts dropped kinds (us ++ vs)
kept_verts-whole dropped kinds us vs d e k l given out out_us out_vs once is_d is_e is_k is_l is_given is_out is_us is_all =
    is_all
    ∙ ap (λ ws. ws ++ kept_verts e l given) (is_us ∙ ap (λ ws. ws ++ kept_verts d k us) is_out ∙ kept_verts-given dropped kinds us d k once is_d is_k)
    ∙ ap (λ ws. kept_verts dropped kinds us ++ ws) (ap (kept_verts e l) is_given ∙ kept_verts-given dropped kinds vs e l once is_e is_l)
    ∙ sym (kept_verts-append dropped kinds us vs)

-- the pipes of an instance that are kept, and then new ones
pub kept_pipes-whole : (dropped : List ℕ) (ps qs : List Pipe) (d : List ℕ) (qs_given out out_ps out_qs : List Pipe)
    → d ≡ by_name (λ (n : ℕ). n) dropped
    → qs_given ≡ qs
    → out ≡ []
    → out_ps ≡ out ++ kept_pipes d ps
    → out_qs ≡ out_ps ++ qs_given
    → out_qs ≡ kept_pipes dropped ps ++ qs
kept_pipes-whole dropped ps qs d qs_given out out_ps out_qs is_d is_qs is_out is_ps is_all =
    is_all
    ∙ ap (λ xs. xs ++ qs_given) (is_ps ∙ ap (λ xs. xs ++ kept_pipes d ps) is_out ∙ ap (λ e. kept_pipes e ps) is_d ∙ kept_pipes-in_order dropped ps)
    ∙ ap (λ xs. kept_pipes dropped ps ++ xs) is_qs
