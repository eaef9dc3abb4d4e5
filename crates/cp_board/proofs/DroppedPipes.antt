-- Dropping a pipe keeps the five rules, and each solution.
use Rattle.std.proofs.Common.{◌≡◌, ℕ, zero, suc, ◌^◌, ◌<◌, Bool, true, not, List, [], ◌∷◌, ◌++◌, sym, refl, ap, ◌∙◌, subst, arith}
use Rattle.std.specs.Prelude.{filter, map}
use Rattle.std.specs.List.{All, Contains, flat_map}
use Rattle.std.proofs.lemmas.Bool.{cond_both}
use Rattle.std.proofs.lemmas.List.{append-nil, map-id, length-map, get_or-map}
use Rattle.std.proofs.lemmas.List.Elements.{All-filter, All-map, All-nil}
use Rattle.cp_lists.specs.CyclicLists.{Distinct, Lacks}
use Rattle.cp_board.specs.declared.parts.Pipe.{Pipe}
use Rattle.cp_board.specs.Names.{has, by_name}
use Rattle.cp_board.specs.Instances.{Synchronized, IsSynchronized, HasRightEnds, HasRightPairs, graph, vert_names, edge_names, pipe_names}
use Rattle.cp_board.specs.Changes.{other_pipes, IsWithoutPipe}
use Rattle.cp_board.specs.Rewrites.{rewritten, dropping, with_kinds, IsRewriteOf}
use Rattle.cp_board.specs.Solutions.{Solves, IsMirror, second_of}
use Rattle.cp_board.proofs.ListTests.{IsStrictlyIncreasing-from_test}
use Rattle.cp_board.proofs.NamedLists.{rises_from, by_name_same, filter_true, rises-filter}

-- what holds of the values holds of the items
All-unmapped : {A B : Type 0} (holds : B → Type 0) (f : A → B) (xs : List A) → All holds (map f xs)
    → All (λ x. holds (f x)) xs
All-unmapped holds f xs all k d lt = subst holds (get_or-map f xs k d (f d) lt) (all k (f d) (omega (arith, length-map xs f)))

-- the ends of all pipes
abbrev ends_of_all : List Pipe → List ℕ
ends_of_all ps = flat_map (λ p. p.a ∷ p.b ∷ []) ps

-- a vertex that is no end of any pipe is no end of those that are kept
lacks-filter : (d : ℕ) (t : Pipe → Bool) (ps : List Pipe) → Lacks d (ends_of_all ps)
    → Lacks d (ends_of_all (filter t ps))
lacks-filter d t [] h = h
lacks-filter d t (p ∷ ps) h =
    cond_both (t p) (p ∷ filter t ps) (filter t ps) (λ qs. Lacks d (ends_of_all qs))
    (λ e. (h.0, (h.1.0, lacks-filter d t ps h.1.1)))
    (λ e. lacks-filter d t ps h.1.1)

-- and where the ends of all pipes are distinct, those of the kept ones are
distinct-filter : (t : Pipe → Bool) (ps : List Pipe) → Distinct (ends_of_all ps) → Distinct (ends_of_all (filter t ps))
distinct-filter t [] h = h
distinct-filter t (p ∷ ps) h =
    cond_both (t p) (p ∷ filter t ps) (filter t ps) (λ qs. Distinct (ends_of_all qs))
    (λ e. ((h.0.0, lacks-filter p.a t ps h.0.1), (lacks-filter p.b t ps h.1.0, distinct-filter t ps h.1.1)))
    (λ e. distinct-filter t ps h.1.1)

-- an instance with some of the pipes keeps the rules
pub IsSynchronized-fewer_pipes : (i : Synchronized) (t : Pipe → Bool) → IsSynchronized i
    → IsSynchronized record { verts = i.verts; edges = i.edges; pipes = filter t i.pipes }
IsSynchronized-fewer_pipes i t is = record {
  verts_named = is.verts_named;
  edges_named = is.edges_named;
  pipes_named = record {
    rise = IsStrictlyIncreasing-from_test (map (λ p. p.name) (filter t i.pipes)) (rises-filter (λ p. p.name) t i.pipes (rises_from (pipe_names i) is.pipes_named.rise));
    fit = fit_of;
  };
  cells_fit = is.cells_fit;
  ends_live = is.ends_live;
  ends_differ = is.ends_differ;
  lists_right = is.lists_right;
  ends_free = All-filter t (HasRightEnds i.verts) i.pipes is.ends_free;
  ends_apart = distinct-filter t i.pipes is.ends_apart;
  pairs_right = All-filter t (HasRightPairs (graph i)) i.pipes is.pairs_right;
}
  where
    fit_of : All (λ n. n < 2 ^ 63) (map (λ p. p.name) (filter t i.pipes))
    fit_of = All-map (λ n. n < 2 ^ 63) (λ p. p.name) (filter t i.pipes) (All-filter t (λ p. p.name < 2 ^ 63) i.pipes (All-unmapped (λ n. n < 2 ^ 63) (λ p. p.name) i.pipes is.pipes_named.fit))

-- the instance after a pipe was dropped
pub rewritten_dropping : (i : Synchronized) (pipe : ℕ) → IsSynchronized i
    → rewritten (dropping pipe) i ≡ record { verts = i.verts; edges = i.edges; pipes = other_pipes i (pipe ∷ []) }
rewritten_dropping i pipe is =
    ap (λ z. record { verts = z; edges = by_name (λ e. e.name) (i.edges ++ []); pipes = by_name (λ p. p.name) (other_pipes i (pipe ∷ []) ++ []) }) same_verts
    ∙ ap (λ z. record { verts = i.verts; edges = z; pipes = by_name (λ p. p.name) (other_pipes i (pipe ∷ []) ++ []) }) same_edges
    ∙ ap (λ z. record { verts = i.verts; edges = i.edges; pipes = z }) same_pipes
  where
    same_verts : by_name (λ v. v.name) (map (with_kinds []) (filter (λ v. not (has [] v.name)) (i.verts ++ [])))
        ≡ i.verts
    same_verts = ap (by_name (λ v. v.name)) (map-id (filter (λ v. true) (i.verts ++ [])) ∙ filter_true (i.verts ++ []) ∙ append-nil i.verts) ∙ by_name_same (λ v. v.name) i.verts (rises_from (vert_names i) is.verts_named.rise)

    same_edges : by_name (λ e. e.name) (i.edges ++ []) ≡ i.edges
    same_edges = ap (by_name (λ e. e.name)) (append-nil i.edges) ∙ by_name_same (λ e. e.name) i.edges (rises_from (edge_names i) is.edges_named.rise)

    same_pipes : by_name (λ p. p.name) (other_pipes i (pipe ∷ []) ++ []) ≡ other_pipes i (pipe ∷ [])
    same_pipes = ap (by_name (λ p. p.name)) (append-nil (other_pipes i (pipe ∷ []))) ∙ by_name_same (λ p. p.name) (other_pipes i (pipe ∷ [])) (rises-filter (λ p. p.name) _ i.pipes (rises_from (pipe_names i) is.pipes_named.rise))

-- dropping a live pipe fits an instance
pub IsRewriteOf-dropping : (i : Synchronized) (pipe : ℕ) → IsSynchronized i → Contains (pipe_names i) pipe
    → IsRewriteOf i (dropping pipe)
IsRewriteOf-dropping i pipe is live = record {
  pipes_live = one_live;
  pipes_once = (tt, tt);
  verts_live = All-nil _;
  verts_once = tt;
  moves = tt;
  kinds_live = All-nil _;
  kinds_once = tt;
  rules = subst IsSynchronized (sym (rewritten_dropping i pipe is)) (IsSynchronized-fewer_pipes i (λ p. not (has (pipe ∷ []) p.name)) is);
  new_verts = refl;
  new_edges = refl;
  new_pipes = refl;
  new_cells = refl;
}
  where
    one_live : All (Contains (pipe_names i)) (pipe ∷ [])
    one_live zero d lt = live
    one_live (suc k) d lt = absurd (omega arith)

-- the rewrite that drops a pipe takes it away and changes nothing else
pub IsWithoutPipe-dropping : (i j : Synchronized) (pipe : ℕ) → IsSynchronized i → j ≡ rewritten (dropping pipe) i
    → IsWithoutPipe i pipe j
IsWithoutPipe-dropping i j pipe is e =
    let same = e ∙ rewritten_dropping i pipe is in
    record { verts = ap (λ z. z.verts) same; edges = ap (λ z. z.edges) same; pipes = ap (λ z. z.pipes) same }

-- a step that only drops a pipe keeps each solution
pub Solves-without_pipe : (i j : Synchronized) (pipe : ℕ) (s : ℕ → List ℕ) → IsWithoutPipe i pipe j → Solves i s
    → Solves j s
Solves-without_pipe i j pipe s w h = subst (λ z. Solves z s) (sym same) (record {
  rotation = h.rotation;
  mirrored = All-filter _ (λ q. IsMirror (second_of q) (s q.a) (s q.b)) i.pipes h.mirrored;
  back = h.back;
  in_direction = h.in_direction;
})
  where
    same : j ≡ record { verts = i.verts; edges = i.edges; pipes = other_pipes i (pipe ∷ []) }
    same = ap (λ z. record { verts = z; edges = j.edges; pipes = j.pipes }) w.verts ∙ ap (λ z. record { verts = i.verts; edges = z; pipes = j.pipes }) w.edges ∙ ap (λ z. record { verts = i.verts; edges = i.edges; pipes = z }) w.pipes
