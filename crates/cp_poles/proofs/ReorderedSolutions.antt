-- A solution stays one where two P-vertices without pipes get other lists in a rotation.
use Rattle.std.proofs.Common.{◌≡◌, ◌≢◌, ℕ, ◌<◌, true, List, length, slice_index_or, sym, subst, ⊎_elim}
use Rattle.std.specs.List.{All, Contains}
use Rattle.std.proofs.lemmas.Bool.{cases_eq}
use Rattle.std.proofs.lemmas.List.Elements.{All-contains_itself}
use Rattle.cp_board.specs.declared.parts.Kind.TheVariants.{P}
use Rattle.cp_board.specs.declared.parts.Pipe.{Pipe}
use Rattle.cp_board.specs.declared.parts.Vert.{Vert}
use Rattle.cp_board.specs.Instances.{Synchronized, IsSynchronized, IsPVertex, graph, vert_names}
use Rattle.cp_board.specs.Solutions.{IsInDirection, IsMirror, Solves, second_of}
use Rattle.cp_board.proofs.ListTests.{rises}
use Rattle.cp_board.proofs.NamedLists.{rises_from}
use Rattle.cp_poles.proofs.FixedEnds.{kind_at, named-Contains}
use Rattle.cp_poles.proofs.FoundItems.{All-unmapped}
use Rattle.cp_poles.specs.Permuted.{IsReordered}

-- neither end of the pipe is v
abbrev pub HasNoEnd : ℕ → Pipe → Type 0
HasNoEnd v q = (q.a ≢ v) × (q.b ≢ v)

-- such lists solve the instance
pub Solves-reordered : (j : Synchronized) → IsSynchronized j → (s s' : ℕ → List ℕ) (u v : ℕ) (order : List ℕ)
    → IsReordered (graph j) s u v order s' → IsPVertex j u → IsPVertex j v → All (HasNoEnd u) j.pipes
    → All (HasNoEnd v) j.pipes → Solves j s → Solves j s'
Solves-reordered j is s s' u v order re free_u free_v off_u off_v h = record {
  rotation = re.rotation;
  mirrored = λ k d lt.
      let q : Pipe = slice_index_or j.pipes k d in
      let ends = is.ends_free k d lt in
      let at_a : s' q.a ≡ s q.a =
      re.others q.a (named-Contains j.verts q.a P ends.free_a) (off_u k d lt).0 (off_v k d lt).0 in
      let at_b : s' q.b ≡ s q.b =
      re.others q.b (named-Contains j.verts q.b P ends.free_b) (off_u k d lt).1 (off_v k d lt).1 in
      subst (λ xs. IsMirror (second_of q) xs (s' q.b)) (sym at_a)
      (subst (IsMirror (second_of q) (s q.a)) (sym at_b) (h.mirrored k d lt));
  back = h.back;
  in_direction = λ k d lt.
      let x : Vert = slice_index_or j.verts k d in
      let free : (w : ℕ) → IsPVertex j w → x.name ≡ w → IsInDirection h.back (s' x.name) x.kind =
      λ w is_p e. subst (IsInDirection h.back (s' x.name)) (sym (kind_at j.verts k d w P up lt e is_p)) tt in
      ⊎_elim
      (λ e. free u free_u e)
      (λ nu. ⊎_elim
      (λ e. free v free_v e)
      (λ nv. subst (λ xs. IsInDirection h.back xs x.kind) (sym (re.others x.name (live k d lt) nu nv))
      (h.in_direction k d lt))
      (cases_eq x.name v))
      (cases_eq x.name u);
}
  where
    up : rises (vert_names j) ≡ true
    up = rises_from (vert_names j) is.verts_named.rise

    live : (k : ℕ) (d : Vert) → k < length j.verts → Contains (vert_names j) (slice_index_or j.verts k d).name
    live = All-unmapped (Contains (vert_names j)) (λ x. x.name) j.verts (All-contains_itself (vert_names j))
