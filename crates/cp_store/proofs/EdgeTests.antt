-- The links of edges, when ends of edges move and edges come.
use Rattle.std.proofs.Common.{◌≡◌, ◌≢◌, ℕ, Bool, true, false, not, ◌&&◌, ◌||◌, cond, eqb, ltb, List, [], ◌∷◌, ◌++◌, map, sym, refl, ap, ◌∙◌, subst, arith, ⊎_elim}
use Rattle.std.specs.Prelude.{Option, Some, None}
use Rattle.std.specs.List.{All}
use Rattle.std.specs.Option.{option_map}
use Rattle.std.proofs.lemmas.Bool.{false≢true, and_parts, cond_both, cond-true, cond-false, cases_eq, eq-eqb, ne_eqb, eqb-true, ltb-true}
use Rattle.std.proofs.lemmas.List.Elements.{All-cons, All-head, All-tail, All-nil}
use Rattle.std.proofs.lemmas.List.{append-nil, append_assoc}
use Rattle.std.proofs.lemmas.List.Folds.{list_any-append}
use Rattle.cp_board.specs.declared.parts.EdgeRow.{EdgeRow}
use Rattle.cp_board.specs.declared.rewrite.EdgeMove.{EdgeMove}
use Rattle.cp_board.specs.declared.rewrite.Rewrite.{Rewrite}
use Rattle.cp_board.specs.Names.{put, by_name}
use Rattle.cp_board.specs.Instances.{Synchronized, IsSynchronized, names_of_edges}
use Rattle.cp_board.specs.Rewrites.{moved_end, after_moves, IsMove, AreMoves, rewritten, IsRewriteOf, verts_with}
use Rattle.cp_board.proofs.ListTests.{rises}
use Rattle.cp_board.proofs.NamedLists.{under_all, under_all-rises, rises_from, rises_after, found_at}
use Rattle.cp_sync.proofs.Moves.{names-moved}
use Rattle.cp_store.specs.Exchanges.{under}
use Rattle.cp_store.specs.Links.{with_link, without_link}
use Rattle.cp_store.specs.EdgeLinks.{has_end, joins, moved_links, added_links}
use Rattle.cp_store.proofs.ExchangedItems.{Some-same, None-Some}
use Rattle.cp_store.proofs.EdgeMoves.{row_name, moved_end-name}

-- whether v is an end of an edge that may be none
abbrev found_end : Option EdgeRow → ℕ → Bool
found_end None v = false
found_end (Some e) v = has_end e v

-- no edge is named by what is below all names
joins-below : (es : List EdgeRow) (v n : ℕ) → under_all row_name n es ≡ true → joins es v n ≡ false
joins-below [] v n u = refl
joins-below (e ∷ es) v n u =
    let h = and_parts (ltb n e.name) (under_all row_name n es) u in
    let lt = ltb-true n e.name h.0 in
    ap (λ b. (b && has_end e v) || joins es v n) (ne_eqb n e.name (λ s. omega (arith, s, lt))) ∙ joins-below es v n h.1

-- v is an end of the edge named n exactly where it is one of the edge that is found
joins-found : (es : List EdgeRow) (v n : ℕ) → rises (names_of_edges es) ≡ true
    → joins es v n ≡ found_end (under row_name n es) v
joins-found [] v n up = refl
joins-found (e ∷ es) v n up =
    ⊎_elim
    (λ (same : e.name ≡ n).
    ap (λ b. (b && has_end e v) || joins es v n) (eq-eqb n e.name (sym same))
    ∙ ap (λ b. has_end e v || b) (joins-below es v n
    (subst (λ m. under_all row_name m es ≡ true) same (under_all-rises row_name e.name es up)))
    ∙ or_false (has_end e v)
    ∙ sym (ap (λ o. found_end o v) (cond-true (eqb e.name n) (Some e) (under row_name n es) (eq-eqb e.name n same))))
    (λ (ne : e.name ≢ n).
    ap (λ b. (b && has_end e v) || joins es v n) (ne_eqb n e.name (λ s. ne (sym s)))
    ∙ joins-found es v n (rises_after row_name e es up)
    ∙ sym (ap (λ o. found_end o v) (cond-false (eqb e.name n) (Some e) (under row_name n es) (ne_eqb e.name n ne))))
    (cases_eq e.name n)
  where
    or_false : (b : Bool) → (b || false) ≡ b
    or_false true = refl
    or_false false = refl

-- what is found after a move is what was found, moved
under-moved : (m : EdgeMove) (n : ℕ) (es : List EdgeRow)
    → under row_name n (map (moved_end m) es) ≡ option_map (moved_end m) (under row_name n es)
under-moved m n [] = refl
under-moved m n (e ∷ es) =
    ap (λ k. cond (eqb k n) (Some (moved_end m e)) (under row_name n (map (moved_end m) es))) (moved_end-name m e)
    ∙ ap (cond (eqb e.name n) (Some (moved_end m e))) (under-moved m n es)
    ∙ either (eqb e.name n) (under row_name n es)
  where
    either : (b : Bool) (o : Option EdgeRow)
        → cond b (Some (moved_end m e)) (option_map (moved_end m) o) ≡ option_map (moved_end m) (cond b (Some e) o)
    either true o = refl
    either false o = refl

-- what is found under another name than that of a move is not changed by it
moved-other_name : (m : EdgeMove) (n : ℕ) (es : List EdgeRow) → n ≢ m.edge
    → option_map (moved_end m) (under row_name n es) ≡ under row_name n es
moved-other_name m n [] ne = refl
moved-other_name m n (e ∷ es) ne =
    cond_both (eqb e.name n) (Some e) (under row_name n es) (λ o. option_map (moved_end m) o ≡ o)
    (λ t. ap Some (cond-false (eqb e.name m.edge) _ e (ne_eqb e.name m.edge (λ s. ne (sym (eqb-true e.name n t) ∙ s)))))
    (λ f. moved-other_name m n es ne)

-- the edge of a move is found under its name
move-found : (verts : List ℕ) (m : EdgeMove) (es : List EdgeRow) → rises (names_of_edges es) ≡ true
    → (move : IsMove verts es m)
    → under row_name m.edge es ≡ Some move.edge
move-found verts m es up move =
    let at = move.live in
    subst (λ n. under row_name n es ≡ Some move.edge) (ap row_name at.2 ∙ move.named)
    (found_at row_name es at.0 move.edge up at.1 ∙ ap Some at.2)

-- the ends of each edge differ
abbrev Differ : List EdgeRow → Type 0
Differ es = All (λ (e : EdgeRow). e.a ≢ e.b) es

-- what is found among edges whose ends differ
found-differ : (n : ℕ) (es : List EdgeRow) (e : EdgeRow) → Differ es → under row_name n es ≡ Some e → e.a ≢ e.b
found-differ n [] e all found = absurd (None-Some e found)
found-differ n (d ∷ es) e all found =
    cond_both (eqb d.name n) (Some d) (under row_name n es) (λ o. o ≡ Some e → e.a ≢ e.b)
    (λ t h. subst (λ (x : EdgeRow). x.a ≢ x.b) (Some-same d e h) (All-head (λ (x : EdgeRow). x.a ≢ x.b) d es all))
    (λ f h. found-differ n es e (All-tail (λ (x : EdgeRow). x.a ≢ x.b) d es all) h)
    found

-- truth values of a move of another edge, of a first end and of a second end
pass : (p q r : Bool) → ((p && false) || (not (q && false) && r)) ≡ r
pass true true r = refl
pass true false r = refl
pass false true r = refl
pass false false r = refl

-- an edge whose first end moves has the new end and its second one
first_end : (t f b : Bool) → (f ≡ true → b ≡ false) → ((t && true) || (not (f && true) && (f || b))) ≡ (t || b)
first_end true f b h = refl
first_end false true b h = sym (h refl)
first_end false false b h = refl

-- an edge whose second end moves has its first end and the new one
second_end : (t f a : Bool) → (f ≡ true → a ≡ false) → ((t && true) || (not (f && true) && (a || f))) ≡ (a || t)
second_end true f true h = refl
second_end true f false h = refl
second_end false true true h = absurd (false≢true (sym (h refl)))
second_end false true false h = refl
second_end false false true h = refl
second_end false false false h = refl

-- a move moves the links
module _ (verts : List ℕ) (m : EdgeMove) (es : List EdgeRow) (up : rises (names_of_edges es) ≡ true)
    (differ : Differ es) (move : IsMove verts es m) where
  -- the names still rise after the move
  moved-up : rises (names_of_edges (map (moved_end m) es)) ≡ true
  moved-up = subst (λ ns. rises ns ≡ true) (sym (names-moved m es)) up

  -- the edge of the move is found under its name
  found : under row_name m.edge es ≡ Some move.edge
  found = move-found verts m es up move

  -- its ends differ
  ends_differ : move.edge.a ≢ move.edge.b
  ends_differ = found-differ m.edge es move.edge differ found

  -- where the first end moves, the edge has the new end as its first
  moved_first : move.edge.a ≡ m.from
      → moved_end m move.edge ≡ record { name = move.edge.name; a = m.to; b = move.edge.b }
  moved_first e =
      cond-true (eqb move.edge.name m.edge) _ move.edge (eq-eqb move.edge.name m.edge move.named)
      ∙ cond-true (eqb move.edge.a m.from) _ _ (eq-eqb move.edge.a m.from e)

  -- where the second end moves, the edge has the new end as its second
  moved_second : move.edge.b ≡ m.from
      → moved_end m move.edge ≡ record { name = move.edge.name; a = move.edge.a; b = m.to }
  moved_second e =
      cond-true (eqb move.edge.name m.edge) _ move.edge (eq-eqb move.edge.name m.edge move.named)
      ∙ cond-false (eqb move.edge.a m.from) _ _ (ne_eqb move.edge.a m.from (λ s. ends_differ (s ∙ sym e)))

  -- the links of the edge that moves are those of the moved edge
  links-here : (v : ℕ) → ((eqb v m.to && true) || (not (eqb v m.from && true) && has_end move.edge v))
      ≡ has_end (moved_end m move.edge) v
  links-here v =
      ⊎_elim
      (λ first.
      ap (λ x. (eqb v m.to && true) || (not (eqb v m.from && true) && (eqb v x || eqb v move.edge.b))) first.0
      ∙ first_end (eqb v m.to) (eqb v m.from) (eqb v move.edge.b)
      (λ t. ne_eqb v move.edge.b (λ s. ends_differ (first.0 ∙ sym (eqb-true v m.from t) ∙ s)))
      ∙ sym (ap (λ x. has_end x v) (moved_first first.0)))
      (λ second.
      ap (λ x. (eqb v m.to && true) || (not (eqb v m.from && true) && (eqb v move.edge.a || eqb v x))) second.0
      ∙ second_end (eqb v m.to) (eqb v m.from) (eqb v move.edge.a)
      (λ t. ne_eqb v move.edge.a (λ s. ends_differ (sym s ∙ eqb-true v m.from t ∙ sym second.0)))
      ∙ sym (ap (λ x. has_end x v) (moved_second second.0)))
      move.ends

  -- the links with one taken out and one put in are those of the edges after the move
  move-links : (v n : ℕ) → with_link (without_link (joins es) m.from m.edge) m.to m.edge v n
      ≡ joins (map (moved_end m) es) v n
  move-links v n =
      ⊎_elim
      (λ (same : n ≡ m.edge).
      ap (λ b. (eqb v m.to && b) || (not (eqb v m.from && b) && joins es v n)) (eq-eqb n m.edge same)
      ∙ ap (λ b. (eqb v m.to && true) || (not (eqb v m.from && true) && b))
      (joins-found es v n up ∙ ap (λ k. found_end (under row_name k es) v) same ∙ ap (λ o. found_end o v) found)
      ∙ links-here v
      ∙ sym (joins-found (map (moved_end m) es) v n moved-up
      ∙ ap (λ k. found_end (under row_name k (map (moved_end m) es)) v) same
      ∙ ap (λ o. found_end o v) (under-moved m m.edge es ∙ ap (option_map (moved_end m)) found)))
      (λ (ne : n ≢ m.edge).
      ap (λ b. (eqb v m.to && b) || (not (eqb v m.from && b) && joins es v n)) (ne_eqb n m.edge ne)
      ∙ pass (eqb v m.to) (eqb v m.from) (joins es v n)
      ∙ joins-found es v n up
      ∙ sym (joins-found (map (moved_end m) es) v n moved-up
      ∙ ap (λ o. found_end o v) (under-moved m n es ∙ moved-other_name m n es ne)))
      (cases_eq n m.edge)

  -- the ends of the edge that moves still differ
  moved-differ : (moved_end m move.edge).a ≢ (moved_end m move.edge).b
  moved-differ =
      ⊎_elim
      (λ first. subst (λ (x : EdgeRow). x.a ≢ x.b) (sym (moved_first first.0)) (λ s. first.1 (sym s)))
      (λ second. subst (λ (x : EdgeRow). x.a ≢ x.b) (sym (moved_second second.0)) second.1)
      move.ends

-- edges of other names stay
stay-differ : (m : EdgeMove) (es : List EdgeRow) → under_all row_name m.edge es ≡ true → Differ es
    → Differ (map (moved_end m) es)
stay-differ m [] u all = All-nil (λ (x : EdgeRow). x.a ≢ x.b)
stay-differ m (e ∷ es) u all =
    let h = and_parts (ltb m.edge e.name) (under_all row_name m.edge es) u in
    let lt = ltb-true m.edge e.name h.0 in
    All-cons (λ (x : EdgeRow). x.a ≢ x.b) (moved_end m e) (map (moved_end m) es)
    (subst (λ (x : EdgeRow). x.a ≢ x.b)
    (sym (cond-false (eqb e.name m.edge) _ e (ne_eqb e.name m.edge (λ s. omega (arith, s, lt)))))
    (All-head (λ (x : EdgeRow). x.a ≢ x.b) e es all))
    (stay-differ m es h.1 (All-tail (λ (x : EdgeRow). x.a ≢ x.b) e es all))

-- the ends of all edges differ after a move of one whose ends then differ
all-differ : (m : EdgeMove) (x : EdgeRow) → (moved_end m x).a ≢ (moved_end m x).b → (es : List EdgeRow)
    → rises (names_of_edges es) ≡ true
    → Differ es
    → under row_name m.edge es ≡ Some x
    → Differ (map (moved_end m) es)
all-differ m x goes [] up all found = absurd (None-Some x found)
all-differ m x goes (e ∷ es) up all found =
    cond_both (eqb e.name m.edge) (Some e) (under row_name m.edge es)
    (λ o. o ≡ Some x → Differ (map (moved_end m) (e ∷ es)))
    (λ t h.
    All-cons (λ (y : EdgeRow). y.a ≢ y.b) (moved_end m e) (map (moved_end m) es)
    (subst (λ (y : EdgeRow). (moved_end m y).a ≢ (moved_end m y).b) (sym (Some-same e x h)) goes)
    (stay-differ m es (subst (λ k. under_all row_name k es ≡ true) (eqb-true e.name m.edge t)
    (under_all-rises row_name e.name es up)) (All-tail (λ (y : EdgeRow). y.a ≢ y.b) e es all)))
    (λ f h.
    All-cons (λ (y : EdgeRow). y.a ≢ y.b) (moved_end m e) (map (moved_end m) es)
    (subst (λ (y : EdgeRow). y.a ≢ y.b) (sym (cond-false (eqb e.name m.edge) _ e f))
    (All-head (λ (y : EdgeRow). y.a ≢ y.b) e es all))
    (all-differ m x goes es (rises_after row_name e es up) (All-tail (λ (y : EdgeRow). y.a ≢ y.b) e es all) h))
    found

-- moves, one after another, move the links
moves-links : (verts : List ℕ) (ms : List EdgeMove) (es : List EdgeRow) (test : ℕ → ℕ → Bool)
    → rises (names_of_edges es) ≡ true
    → Differ es
    → AreMoves verts es ms
    → ((v n : ℕ) → test v n ≡ joins es v n)
    → (v n : ℕ) → moved_links ms test v n ≡ joins (after_moves ms es) v n
moves-links verts [] es test up differ are h v n = h v n
moves-links verts (m ∷ ms) es test up differ are h v n =
    moves-links verts ms (map (moved_end m) es) (with_link (without_link test m.from m.edge) m.to m.edge)
    (moved-up verts m es up differ are.0)
    (all-differ m are.0.edge (moved-differ verts m es up differ are.0) es up differ (move-found verts m es up are.0))
    are.1
    (λ u k. ap (λ b. (eqb u m.to && eqb k m.edge) || (not (eqb u m.from && eqb k m.edge) && b)) (h u k)
    ∙ move-links verts m es up differ are.0 u k)
    v n

-- truth values of one edge more
one_more : (a b n t : Bool) → ((b && n) || ((a && n) || t)) ≡ (t || ((n && (a || b)) || false))
one_more true true true true = refl
one_more true true true false = refl
one_more true true false true = refl
one_more true true false false = refl
one_more true false true true = refl
one_more true false true false = refl
one_more true false false true = refl
one_more true false false false = refl
one_more false true true true = refl
one_more false true true false = refl
one_more false true false true = refl
one_more false true false false = refl
one_more false false true true = refl
one_more false false true false = refl
one_more false false false true = refl
one_more false false false false = refl

-- edges that come bring their links
pub edges-links : (fs es : List EdgeRow) (test : ℕ → ℕ → Bool) → ((v n : ℕ) → test v n ≡ joins es v n)
    → (v n : ℕ) → added_links fs test v n ≡ joins (es ++ fs) v n
edges-links [] es test h v n = h v n ∙ sym (ap (λ xs. joins xs v n) (append-nil es))
edges-links (f ∷ fs) es test h v n =
    edges-links fs (es ++ f ∷ []) (with_link (with_link test f.a f.name) f.b f.name)
    (λ u k.
    ap (λ b. (eqb u f.b && eqb k f.name) || ((eqb u f.a && eqb k f.name) || b)) (h u k)
    ∙ one_more (eqb u f.a) (eqb u f.b) (eqb k f.name) (joins es u k)
    ∙ sym (list_any-append (λ (e : EdgeRow). eqb k e.name && has_end e u) es (f ∷ [])))
    v n
    ∙ ap (λ xs. joins xs v n) (append_assoc es (f ∷ []) fs)

-- the order of names keeps the links
joins-put : (x : EdgeRow) (ys : List EdgeRow) (v n : ℕ) → joins (put row_name x ys) v n ≡ joins (x ∷ ys) v n
joins-put x [] v n = refl
joins-put x (y ∷ ys) v n =
    cond_both (ltb x.name y.name) (x ∷ y ∷ ys) (y ∷ put row_name x ys) (λ zs. joins zs v n ≡ joins (x ∷ y ∷ ys) v n)
    (λ t. refl)
    (λ f. ap (λ b. (eqb n y.name && has_end y v) || b) (joins-put x ys v n)
    ∙ swapped (eqb n y.name && has_end y v) (eqb n x.name && has_end x v) (joins ys v n))
  where
    swapped : (p q r : Bool) → (p || (q || r)) ≡ (q || (p || r))
    swapped true true r = refl
    swapped true false r = refl
    swapped false q r = refl

-- edges in the order of their names have the same links
joins-by_name : (xs : List EdgeRow) (v n : ℕ) → joins (by_name row_name xs) v n ≡ joins xs v n
joins-by_name [] v n = refl
joins-by_name (x ∷ xs) v n = joins-put x (by_name row_name xs) v n
    ∙ ap (λ b. (eqb n x.name && has_end x v) || b) (joins-by_name xs v n)

-- the links of the edges of a rewritten instance
pub links-rewritten : (i : Synchronized) (w : Rewrite) → IsSynchronized i → IsRewriteOf i w → (v n : ℕ)
    → added_links w.add_edges (moved_links w.moves (joins i.edges)) v n ≡ joins (rewritten w i).edges v n
links-rewritten i w is fits v n =
    edges-links w.add_edges (after_moves w.moves i.edges) (moved_links w.moves (joins i.edges))
    (moves-links (verts_with w i) w.moves i.edges (joins i.edges)
    (rises_from (names_of_edges i.edges) is.edges_named.rise) is.ends_differ fits.moves (λ u k. refl))
    v n
    ∙ sym (joins-by_name (after_moves w.moves i.edges ++ w.add_edges) v n)
