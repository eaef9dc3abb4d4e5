-- The pipe past the two poles of FusePoles, from what a board tells.
use Rattle.std.proofs.Common.{◌≡◌, ℕ, true, eqb, List, [], ◌∷◌, map, sym, refl, ap, ◌∙◌, subst}
use Rattle.std.specs.Prelude.{Some}
use Rattle.std.specs.List.{Contains, zip}
use Rattle.std.specs.Option.{option_map_or}
use Rattle.cp_board.specs.declared.parts.Pipe.{Pipe}
use Rattle.cp_board.specs.declared.steps.Step.TheVariants.{FusePoles}
use Rattle.cp_board.specs.Instances.{IsSynchronized, Synchronized, edges_of, pipe_at, pipe_ends_of, pipe_named, pipe_names, vert_names}
use Rattle.cp_board.specs.Steps.{Allowed, opposite, partner}
use Rattle.cp_poles.specs.Fused.{new_pipe_name, partner_told, past, pipe_past}
use Rattle.cp_poles.specs.Wanted.{other_of, partner_in}
use Rattle.cp_poles.proofs.FoundItems.{Some-same}
use Rattle.cp_poles.proofs.FreePoles.{live_end, live_other}
use Rattle.cp_poles.proofs.FusedPipes.{past-steps}
use Rattle.cp_poles.proofs.FusiblePipes.{pole_named, q_end, q_live}
use Rattle.cp_poles.proofs.SmallRewrites.{live_pipe}

-- what a board tells of a pipe: the partners of edges of its end, and its other end
module _ (i : Synchronized) (pipe : ℕ) (p : Pipe) (live : pipe_named i pipe ≡ Some p) where
  -- the partners that are told of edges at a vertex are those that the pipe gives
  pub partners-told : (at : ℕ) (xs : List ℕ) → map (partner_told i pipe at) xs ≡ map (λ x. partner p at x) xs
  partners-told at xs =
      ap (λ o. map
      (λ x. partner_in (option_map_or (λ (z : Pipe). z.pairs) o [])
      (eqb (option_map_or {U = ℕ × ℕ} (λ (z : Pipe). (z.a, z.b)) o (0, 0)).0 at) x) xs)
      live

  -- the other end that is told is that which the pipe gives
  pub other-told : (u : ℕ) → other_of (pipe_ends_of i pipe) u ≡ opposite p u
  other-told u = ap (λ o. other_of (option_map_or {U = ℕ × ℕ} (λ (z : Pipe). (z.a, z.b)) o (0, 0)) u) live

-- items with what they are told
zip-told : (f : ℕ → ℕ) (ys : List ℕ) → zip ys (map f ys) ≡ map (λ y. (y, f y)) ys
zip-told f [] = refl
zip-told f (y ∷ ys) = ap (λ (zs : List (ℕ × ℕ)). (y, f y) ∷ zs) (zip-told f ys)

-- where FusePoles is allowed
module _ (i : Synchronized) (pipe u v : ℕ) (is : IsSynchronized i) (allowed : Allowed i (FusePoles pipe u v)) where
  -- the pipe
  abbrev p : Pipe
  p = allowed.0

  -- the pipe of the pole
  abbrev q : Pipe
  q = allowed.2.0

  -- the pipe is live
  pub fused-pipe_live : Contains (pipe_names i) pipe
  fused-pipe_live = live_pipe i pipe p allowed.1

  -- the end is a vertex
  pub fused-end_live : Contains (vert_names i) u
  fused-end_live = live_end i pipe p is allowed.1 u allowed.2.1.end

  -- and so is the pole
  pub fused-pole_live : Contains (vert_names i) v
  fused-pole_live =
      live_end i q.name q is (q_live i pipe p q is allowed.1 u v allowed.2.1) v
      (q_end i pipe p q is allowed.1 u v allowed.2.1)

  -- and so is the other end of the pipe
  pub fused-other_live : (a : ℕ) → a ≡ other_of (pipe_ends_of i pipe) u → Contains (vert_names i) a
  fused-other_live a asked =
      subst (Contains (vert_names i)) (sym (asked ∙ other-told i pipe p allowed.1 u))
      (live_other i pipe p is allowed.1 u allowed.2.1.end)

  -- the pipe of the pole is live
  pub fused-second_live : (n : ℕ) (r : Pipe) → pipe_at i v ≡ Some r → n ≡ r.name → Contains (pipe_names i) n
  fused-second_live n r at named =
      subst (Contains (pipe_names i)) (sym named) (live_pipe i r.name r (pole_named i is v r at))

  -- the pipe that is put together from what a board tells
  module _ (other name a b : ℕ) (along : List (ℕ × ℕ)) (edges at_end at_pole seconds : List ℕ) (r : Pipe)
      (second : pipe_at i v ≡ Some r) (named : other ≡ r.name) (new : name ≡ new_pipe_name i)
      (near : a ≡ other_of (pipe_ends_of i pipe) u) (far : b ≡ other_of (pipe_ends_of i other) v)
      (at : edges ≡ edges_of i a) (first_step : at_end ≡ map (partner_told i pipe a) edges)
      (second_step : at_pole ≡ map (partner_in along true) at_end)
      (third_step : seconds ≡ map (partner_told i other v) at_pole) where
    -- the other end of p, and its edges
    abbrev w : ℕ
    w = opposite p u

    -- the pipe found at the pole is q
    same_q : r ≡ q
    same_q = Some-same r q (sym second ∙ allowed.2.1.matched)

    -- the name that is told is its name
    same_name : other ≡ q.name
    same_name = named ∙ ap (λ z. z.name) same_q

    -- so the instance has q under it
    q_found : pipe_named i other ≡ Some q
    q_found = subst (λ n. pipe_named i n ≡ Some q) (sym same_name) (q_live i pipe p q is allowed.1 u v allowed.2.1)

    -- the first end that is told is the other end of p
    same_a : a ≡ w
    same_a = near ∙ other-told i pipe p allowed.1 u

    -- and the edges that are told are its edges
    same_edges : edges ≡ edges_of i w
    same_edges = at ∙ ap (edges_of i) same_a

    -- the edges of u
    same_end : at_end ≡ map (λ y. partner p w y) (edges_of i w)
    same_end =
        first_step ∙ ap (λ z. map (partner_told i pipe z) edges) same_a
        ∙ ap (map (partner_told i pipe w)) same_edges ∙ partners-told i pipe p allowed.1 w (edges_of i w)

    -- and the edges of the other end of q
    same_seconds : seconds ≡ map (past p q u v along) (edges_of i w)
    same_seconds =
        third_step ∙ partners-told i other q q_found v at_pole
        ∙ ap (map (λ x. partner q v x)) (second_step ∙ ap (map (partner_in along true)) same_end)
        ∙ past-steps p q u v along (edges_of i w)

    -- are those of the pipe past the two poles
    pub told-pipe_past : record { name = name; a = a; b = b; pairs = zip edges seconds } ≡ pipe_past i p q u v along
    told-pipe_past =
        ap (λ n. record { name = n; a = a; b = b; pairs = zip edges seconds }) new
        ∙ ap (λ z. record { name = new_pipe_name i; a = z; b = b; pairs = zip edges seconds }) same_a
        ∙ ap (λ z. record { name = new_pipe_name i; a = w; b = z; pairs = zip edges seconds })
        (far ∙ other-told i other q q_found v)
        ∙ ap (λ z. record { name = new_pipe_name i; a = w; b = opposite q v; pairs = zip z seconds }) same_edges
        ∙ ap (λ z. record { name = new_pipe_name i; a = w; b = opposite q v; pairs = zip (edges_of i w) z })
        same_seconds
        ∙ ap (λ z. record { name = new_pipe_name i; a = w; b = opposite q v; pairs = z })
        (zip-told (past p q u v along) (edges_of i w))
