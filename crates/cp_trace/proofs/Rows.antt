-- The lines of an instance, read under the names of its parts.
use Rattle.std.proofs.Common.{◌≡◌, ℕ, cond, eqb, List, [], ◌∷◌, ◌++◌, map, find, sym, refl, ap, ◌∙◌}
use Rattle.std.specs.Prelude.{Option, Some}
use Rattle.std.specs.List.{flat_map}
use Rattle.std.specs.Option.{option_map, option_map_or}
use Rattle.std.proofs.lemmas.List.Folds.{flat_map-map}
use Rattle.cp_board.specs.declared.parts.Kind.{Kind}
use Rattle.cp_board.specs.declared.parts.Kind.TheVariants.{P, Q}
use Rattle.cp_board.specs.declared.parts.Vert.{Vert}
use Rattle.cp_board.specs.declared.parts.EdgeRow.{EdgeRow}
use Rattle.cp_board.specs.declared.parts.Pipe.{Pipe}
use Rattle.cp_board.specs.Instances.{Synchronized, IsSynchronized, vert_names, edge_names, pipe_names, is_q_kind, kind_cell, kind_psi}
use Rattle.cp_trace.specs.Parts.{vert_under, edge_under, pipe_under}
use Rattle.cp_trace.specs.Texts.{vert_line, edge_line, pipe_line, text_of}
use Rattle.cp_trace.proofs.NamedParts.{named_found, map_read}

-- a kind is told by whether it is Q, by its cell and by its list
kind_same : (k : Kind) → cond (is_q_kind (Some k)) (Q (kind_cell k) (kind_psi k)) P ≡ k
kind_same P = refl
kind_same (Q cell psi) = refl

-- what is read of a vertex that is found is the vertex
vert_same : (o : Option Vert) (x : Vert) → o ≡ Some x
    → (let k : Option Kind = option_map (λ v. v.kind) o in
    let v : Vert = record {
      name = x.name;
      kind = cond (is_q_kind k)
          (Q (option_map_or kind_cell k 0) (option_map_or kind_psi k [])) P;
    } in v) ≡ x
vert_same o x e = rw e (ap (λ k. let v : Vert = record { name = x.name; kind = k } in v) (kind_same x.kind))

-- and so for an edge
edge_same : (o : Option EdgeRow) (x : EdgeRow) → o ≡ Some x
    → (let ends : ℕ × ℕ = option_map_or (λ (y : EdgeRow). (y.a, y.b)) o (0, 0) in
    let y : EdgeRow = record { name = x.name; a = ends.0; b = ends.1 } in y) ≡ x
edge_same o x e = rw e refl

-- and for a pipe
pipe_same : (o : Option Pipe) (x : Pipe) → o ≡ Some x
    → (let ends : ℕ × ℕ = option_map_or (λ (y : Pipe). (y.a, y.b)) o (0, 0) in
    let y : Pipe = record {
      name = x.name;
      a = ends.0;
      b = ends.1;
      pairs = option_map_or (λ (y : Pipe). y.pairs) o
          [];
    } in y) ≡ x
pipe_same o x e = rw e refl

-- the lines of all items that are read under names
rows_text : {A : Type 0} (line : A → List ℕ) (read : ℕ → A) (names : List ℕ) (xs : List A) → map read names ≡ xs
    → flat_map (λ n. line (read n) ++ 10 ∷ []) names ≡ text_of (map line xs)
rows_text line read names xs e =
    sym (flat_map-map (λ x. line x ++ 10 ∷ []) read names)
    ∙ ap (flat_map (λ x. line x ++ 10 ∷ [])) e
    ∙ sym (flat_map-map (λ l. l ++ 10 ∷ []) line xs)

module _ (i : Synchronized) (is : IsSynchronized i) where
  -- the lines of the vertices
  pub verts_text : flat_map (λ v. vert_line (vert_under i v) ++ 10 ∷ []) (vert_names i) ≡ text_of
      (map vert_line i.verts)
  verts_text = rows_text vert_line (vert_under i) (vert_names i) i.verts
      (map_read (λ (v : Vert). v.name) (vert_under i) i.verts
      (λ x c. vert_same (find (λ (y : Vert). eqb y.name x.name) i.verts) x
      (named_found (λ (v : Vert). v.name) i.verts x is.verts_named.rise c)))

  -- the lines of the edges
  pub edges_text : flat_map (λ e. edge_line (edge_under i e) ++ 10 ∷ []) (edge_names i) ≡ text_of
      (map edge_line i.edges)
  edges_text = rows_text edge_line (edge_under i) (edge_names i) i.edges
      (map_read (λ (e : EdgeRow). e.name) (edge_under i) i.edges
      (λ x c. edge_same (find (λ (y : EdgeRow). eqb y.name x.name) i.edges) x
      (named_found (λ (e : EdgeRow). e.name) i.edges x is.edges_named.rise c)))

  -- the lines of the pipes
  pub pipes_text : flat_map (λ p. pipe_line (pipe_under i p) ++ 10 ∷ []) (pipe_names i) ≡ text_of
      (map pipe_line i.pipes)
  pipes_text = rows_text pipe_line (pipe_under i) (pipe_names i) i.pipes
      (map_read (λ (p : Pipe). p.name) (pipe_under i) i.pipes
      (λ x c. pipe_same (find (λ (y : Pipe). eqb y.name x.name) i.pipes) x
      (named_found (λ (p : Pipe). p.name) i.pipes x is.pipes_named.rise c)))
