-- New names, cut into those for the parts of both ends.
use Rattle.std.proofs.Common.{◌≡◌, ℕ, ◌+◌, ◌*◌, List, ◌++◌, length, take, drop, sym, ap, ap₂, ◌∙◌, arith, append_assoc}
use Rattle.std.proofs.lemmas.List.{length-drop, length-take-le, take-append-drop}
use Rattle.cp_board.specs.Names.{new_names, AreNew}
use Rattle.cp_board.specs.Instances.{Synchronized, pipe_names, vert_names}
use Rattle.cp_board.proofs.NumberOfNewNames.{length-new_names}
use Rattle.cp_join.specs.declared.parted_ends.Parting.{Parting}
use Rattle.cp_join.specs.Partings.{AreParted, new_verts}

-- as many new names as were asked for are new
pub AreNew-asked : (live names : List ℕ) (n : ℕ) → names ≡ new_names live n → AreNew live names
AreNew-asked live names n e =
    e ∙ ap (new_names live) (sym (length-new_names live n) ∙ ap length (sym e))

module _ (i : Synchronized) (pa pb : List (List ℕ)) (s t : Parting) (vs ps : List ℕ)
    (verts : vs ≡ new_names (vert_names i) (2 * (length pa + length pb)))
    (pipes : ps ≡ new_names (pipe_names i) (length pa + length pb))
    (parts_a : s.parts ≡ pa) (parts_b : t.parts ≡ pb)
    (outer_a : s.outer ≡ take (length pa) (take (2 * length pa) vs))
    (inner_a : s.inner ≡ drop (length pa) (take (2 * length pa) vs))
    (outer_b : t.outer ≡ take (length pb) (drop (2 * length pa) vs))
    (inner_b : t.inner ≡ drop (length pb) (drop (2 * length pa) vs))
    (names_a : s.names ≡ take (length pa) ps)
    (names_b : t.names ≡ drop (length pa) ps) where
  -- how many new vertices there are
  size : length vs ≡ 2 * (length pa + length pb)
  size = ap length verts ∙ length-new_names (vert_names i) (2 * (length pa + length pb))

  -- and how many new pipes
  size_pipes : length ps ≡ length pa + length pb
  size_pipes = ap length pipes ∙ length-new_names (pipe_names i) (length pa + length pb)

  -- how many vertices the first end gets
  size_first : length (take (2 * length pa) vs) ≡ 2 * length pa
  size_first = length-take-le (2 * length pa) vs (omega (arith, size))

  -- and the second
  size_second : length (drop (2 * length pa) vs) ≡ 2 * length pb
  size_second = omega (arith, length-drop (2 * length pa) vs, size)

  -- the four parts of the names are the names
  all_verts : new_verts s t ≡ vs
  all_verts =
      ap₂ (λ xs ys. xs ++ ys) (ap₂ (λ xs ys. xs ++ ys) (ap₂ (λ xs ys. xs ++ ys) outer_a inner_a) outer_b) inner_b
      ∙ ap (λ xs. xs ++ take (length pb) (drop (2 * length pa) vs) ++ drop (length pb) (drop (2 * length pa) vs))
      (take-append-drop (length pa) (take (2 * length pa) vs))
      ∙ append_assoc (take (2 * length pa) vs) (take (length pb) (drop (2 * length pa) vs))
      (drop (length pb) (drop (2 * length pa) vs))
      ∙ ap (λ ys. take (2 * length pa) vs ++ ys) (take-append-drop (length pb) (drop (2 * length pa) vs))
      ∙ take-append-drop (2 * length pa) vs

  -- the pipes of both ends are all new ones
  all_names : s.names ++ t.names ≡ ps
  all_names = ap₂ (λ xs ys. xs ++ ys) names_a names_b ∙ take-append-drop (length pa) ps

  -- so both ends are parted
  pub AreParted-cut : AreParted i pa pb s t
  AreParted-cut = record {
    first_end = record {
      same = parts_a;
      outer_each = ap length outer_a ∙ length-take-le (length pa) (take (2 * length pa) vs) (omega (arith, size_first));
      inner_each = omega (arith, ap length inner_a, length-drop (length pa) (take (2 * length pa) vs), size_first);
      name_each = ap length names_a ∙ length-take-le (length pa) ps (omega (arith, size_pipes));
    };
    second_end = record {
      same = parts_b;
      outer_each = ap length outer_b ∙ length-take-le (length pb) (drop (2 * length pa) vs) (omega (arith, size_second));
      inner_each = omega (arith, ap length inner_b, length-drop (length pb) (drop (2 * length pa) vs), size_second);
      name_each = omega (arith, ap length names_b, length-drop (length pa) ps, size_pipes);
    };
    new_verts = AreNew-asked (vert_names i) (new_verts s t) (2 * (length pa + length pb)) (all_verts ∙ verts);
    new_pipes = AreNew-asked (pipe_names i) (s.names ++ t.names) (length pa + length pb) (all_names ∙ pipes);
  }
