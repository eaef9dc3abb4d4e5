-- Toroidal keeps solvability, and how a solution is turned back.
use Rattle.std.proofs.Common.{◌≡◌, ℕ, List, map, sym, refl, ap, ◌∙◌, subst, inl, inr}
use Rattle.std.specs.List.{Contains}
use Rattle.std.specs.Prelude.{Some}
use Rattle.cp_lists.specs.CyclicLists.{Distinct, Has}
use Rattle.cp_lists.specs.Turns.{IsTurn}
use Rattle.cp_lists.proofs.DistinctLists.{Has-Contains}
use Rattle.cp_lists.proofs.FilteredLists.{filter-Distinct}
use Rattle.cp_orbits.specs.Orbits.{CycleLength}
use Rattle.cp_conn.specs.Bonds.{IsBond}
use Rattle.cp_conn.specs.NamedGraphs.{edges_at, ends_at}
use Rattle.cp_board.specs.declared.parts.Pipe.{Pipe}
use Rattle.cp_board.specs.declared.steps.Step.TheVariants.{Toroidal}
use Rattle.cp_board.specs.Effects.{After}
use Rattle.cp_board.specs.Instances.{Synchronized, IsSynchronized, graph, names_of_verts, pipe_ends_of, pipe_named, vert_names}
use Rattle.cp_board.specs.Changes.{IsWithoutPipe}
use Rattle.cp_board.specs.Rotations.{ArrangesEdges, IsRotationOf}
use Rattle.cp_board.specs.Solutions.{IsMirror, IsSolution, Solves, list_in, second_of}
use Rattle.cp_board.specs.Steps.{Allowed, IsToroidal}
use Rattle.cp_board.specs.Reductions.{KeepsSolvable}
use Rattle.cp_board.proofs.DroppedPipes.{Solves-without_pipe}
use Rattle.cp_poles.specs.Kept.{IsKeptOrder}
use Rattle.cp_poles.specs.Layers.{layers, leaders}
use Rattle.cp_poles.specs.Permuted.{IsReordered}
use Rattle.cp_poles.proofs.CycleRows.{rows-Distinct, rows-all, rows-items, rows-turn}
use Rattle.cp_poles.proofs.FoundItems.{Some-same}
use Rattle.cp_poles.proofs.KeptOrders.{ends_told}
use Rattle.cp_poles.proofs.FreePoles.{left, left-IsSynchronized, left_is, others_off, rotation_before}
use Rattle.cp_synclaw.proofs.InstanceDarts.{edges_once}
use Rattle.cp_poles.proofs.PermutedLists.{IsReordered-some}
use Rattle.cp_lists.proofs.PermutedLists.{IsPermutation-from}
use Rattle.cp_poles.proofs.ReorderedSolutions.{Solves-reordered}
use Rattle.cp_poles.proofs.SmallPipes.{Solves-with_pipe, live_a, live_b, own_name, right_ends}
use Rattle.cp_poles.proofs.TorusTurns.{mirror_from_turn}

-- a pipe between the poles of a bond, all cycles of whose map have one length
module _ (i : Synchronized) (pipe : ℕ) (p : Pipe) (is : IsSynchronized i) (live : pipe_named i pipe ≡ Some p)
    (torus : IsToroidal i p) where
  -- the edges of its first end
  abbrev es : List ℕ
  es = edges_at (graph i) p.a

  -- their order by rows of cycles
  abbrev pub row_order : List ℕ
  row_order = layers torus.turning torus.size (leaders torus.turning torus.size es)

  -- none stands twice
  es_once : Distinct es
  es_once = filter-Distinct (ends_at (graph i) p.a) (graph i).edges (edges_once i is)

  -- the map stays among them
  turned_in : (x : ℕ) → Has x es → Has (torus.turning x) es
  turned_in x h = (Has-Contains (torus.turning x) es).1 (torus.is_turning x ((Has-Contains x es).0 h)).0

  -- and all have cycles of one length
  one_size : (x : ℕ) → Has x es → CycleLength torus.turning x torus.size
  one_size x h = torus.one_length x ((Has-Contains x es).0 h)

  -- so the rows arrange the edges
  pub rows_arranged : ArrangesEdges (graph i) p.a row_order
  rows_arranged = IsPermutation-from es row_order es_once
      (rows-Distinct torus.turning torus.size es es_once turned_in one_size)
      (rows-all torus.turning torus.size es es_once turned_in one_size)
      (rows-items torus.turning torus.size es es_once turned_in one_size)

  -- so they are an order that is kept
  pub rows_kept : IsKeptOrder i p row_order
  rows_kept = record {
    turning = torus.turning;
    is_turning = torus.is_turning;
    arranged = rows_arranged;
    kept = rows-turn torus.turning torus.size es es_once turned_in one_size;
  }

-- a pipe between the poles of a bond, and an order of the edges of its first end that the map of the pipe keeps
module _ (i : Synchronized) (pipe : ℕ) (p : Pipe) (is : IsSynchronized i) (live : pipe_named i pipe ≡ Some p)
    (bond : IsBond (graph i) p.a p.b) (order : List ℕ) (kept : IsKeptOrder i p order) where
  -- a solution without the pipe, with this order at the first end, solves the instance
  pub Solves-kept : (j : Synchronized) (s s' : ℕ → List ℕ) → IsWithoutPipe i p.name j → Solves j s
      → IsReordered (graph i) s p.a p.b order s' → Solves i s'
  Solves-kept j s s' w h re =
      Solves-with_pipe i pipe p is live (left i pipe p is live p.a (inl refl)) s'
      record { verts = refl; edges = refl; pipes = refl }
      (Solves-reordered (left i pipe p is live p.a (inl refl)) (left-IsSynchronized i pipe p is live p.a (inl refl)) s
      s' p.a p.b order re (right_ends i pipe p is live).free_a (right_ends i pipe p is live).free_b
      (others_off i pipe p is live p.a (inl refl)) (others_off i pipe p is live p.b (inr refl))
      (subst (λ k. Solves k s) (left_is i pipe p is live p.a (inl refl) j w) h))
      mirror
    where
      turn : IsTurn (s' p.a) (map kept.turning (s' p.a))
      turn = subst (λ xs. IsTurn xs (map kept.turning xs)) (sym re.first) kept.kept

      mirror : IsMirror (second_of p) (s' p.a) (s' p.b)
      mirror = mirror_from_turn i pipe p is live bond kept.turning kept.is_turning s' re.rotation turn

-- Toroidal keeps solvability
pub KeepsSolvable-toroidal : (pipe : ℕ) → KeepsSolvable (Toroidal pipe)
KeepsSolvable-toroidal pipe i j is allowed after =
    let p : Pipe = allowed.0 in
    let live : pipe_named i pipe ≡ Some p = allowed.1 in
    let torus : IsToroidal i p = allowed.2 in
    let w : IsWithoutPipe i p.name j = subst (λ n. IsWithoutPipe i n j) (sym (own_name i pipe p is live)) after.2 in (
      λ solved. (solved.0, Solves-without_pipe i j pipe solved.0 after.2 solved.1),
      λ solved.
          let s : ℕ → List ℕ = solved.0 in
          let rotation : IsRotationOf (graph i) s = rotation_before i pipe p is live p.a (inl refl) j s w solved.1 in
          let re = IsReordered-some i is s rotation p.a p.b (live_a i pipe p is live) (live_b i pipe p is live)
          torus.bond (row_order i pipe p is live torus) (rows_arranged i pipe p is live torus) in (
            re.0,
            Solves-kept i pipe p is live torus.bond (row_order i pipe p is live torus)
                (rows_kept i pipe p is live torus) j s re.0 w solved.1 re.1,
          ),
    )

-- what turning back asks of a solution after Toroidal
pub record IsTurnableTorus (i : Synchronized) (p : Pipe) (lists : List (ℕ × List ℕ)) : Type 0 where
  pub live_a : Contains (vert_names i) p.a
  pub live_b : Contains (vert_names i) p.b
  pub names : map (λ x. x.0) lists ≡ vert_names i
  pub rotation : IsRotationOf (graph i) (list_in lists)

-- a solution after Toroidal can be turned back
pub torus-IsTurnable : (i j : Synchronized) (pipe : ℕ) (p : Pipe) (after : List (ℕ × List ℕ)) → IsSynchronized i
    → pipe_named i pipe ≡ Some p → After i (Toroidal pipe) j → IsSolution j after → IsTurnableTorus i p after
torus-IsTurnable i j pipe p after is live effect h =
    let w : IsWithoutPipe i p.name j = subst (λ n. IsWithoutPipe i n j) (sym (own_name i pipe p is live)) effect.2 in
    record {
      live_a = live_a i pipe p is live;
      live_b = live_b i pipe p is live;
      names = h.names ∙ ap names_of_verts w.verts;
      rotation = rotation_before i pipe p is live p.a (inl refl) j (list_in after) w h.solves;
    }

-- a solution after the step, with a kept order at the first end, is one before it
pub IsSolution-before_torus : (i j : Synchronized) (pipe : ℕ) (p : Pipe) (after before : List (ℕ × List ℕ))
    (order : List ℕ) → IsSynchronized i → pipe_named i pipe ≡ Some p → IsBond (graph i) p.a p.b
    → IsKeptOrder i p order → After i (Toroidal pipe) j → IsSolution j after
    → map (λ x. x.0) before ≡ vert_names i
    → IsReordered (graph i) (list_in after) p.a p.b order (list_in before) → IsSolution i before
IsSolution-before_torus i j pipe p after before order is live bond kept effect h names re =
    let w : IsWithoutPipe i p.name j = subst (λ n. IsWithoutPipe i n j) (sym (own_name i pipe p is live)) effect.2 in
    record {
      names = names;
      solves = Solves-kept i pipe p is live bond order kept j (list_in after) (list_in before) w h.solves re;
    }

-- the same by what a board tells of the ends
pub IsSolution-told_torus : (i j : Synchronized) (pipe : ℕ) (after before : List (ℕ × List ℕ)) (order : List ℕ)
    → IsSynchronized i → Allowed i (Toroidal pipe) → After i (Toroidal pipe) j → IsSolution j after
    → (q : Pipe) × (pipe_named i pipe ≡ Some q) × IsKeptOrder i q order → (ends : ℕ × ℕ)
    → ends ≡ pipe_ends_of i pipe → map (λ x. x.0) before ≡ vert_names i
    → IsReordered (graph i) (list_in after) ends.0 ends.1 order (list_in before) → IsSolution i before
IsSolution-told_torus i j pipe after before order is allowed effect h kept ends asked names re =
    let p : Pipe = allowed.0 in
    let same : kept.0 ≡ p = Some-same kept.0 p (sym kept.1 ∙ allowed.1) in
    IsSolution-before_torus i j pipe p after before order is allowed.1 allowed.2.bond
    (subst (λ q. IsKeptOrder i q order) same kept.2) effect h names
    (subst (λ (x : ℕ × ℕ). IsReordered (graph i) (list_in after) x.0 x.1 order (list_in before))
    (ends_told i pipe p allowed.1 ends asked) re)

-- the kept order arranges the edges of the first end
pub arranged_told : (i : Synchronized) (pipe : ℕ) (order : List ℕ)
    → (q : Pipe) × (pipe_named i pipe ≡ Some q) × IsKeptOrder i q order → (ends : ℕ × ℕ)
    → ends ≡ pipe_ends_of i pipe → ArrangesEdges (graph i) ends.0 order
arranged_told i pipe order kept ends asked =
    subst (λ (x : ℕ × ℕ). ArrangesEdges (graph i) x.0 order) (sym (ends_told i pipe kept.0 kept.1 ends asked))
    kept.2.arranged
