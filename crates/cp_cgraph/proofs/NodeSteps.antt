-- Nodes, one by one.
use Rattle.std.proofs.Common.{◌≡◌, ℕ, ℤ, ◌+◌, ◌<◌, true, false, cond, List, [], ◌∷◌, ◌++◌, length, drop, get_or, Option, Some, None, sym, ap, ◌∙◌, append_assoc, append-nil}
use Rattle.std.specs.Prelude.{codes}
use Rattle.std.specs.List.{flat_map}
use Rattle.std.proofs.lemmas.Bool.{cond-true, cond-false}
use Rattle.std.proofs.lemmas.List.{at_drop_more}
use Rattle.cp_cgraph.specs.declared.kind.GraphKind.TheVariants.{NotAList, MissingId, DuplicateNode}
use Rattle.cp_gml.specs.declared.tree.Entry.{Entry}
use Rattle.cp_cgraph.specs.Entries.{keyed, has_key, inner, first_id}
use Rattle.cp_cgraph.specs.GraphFaults.{Fault, is_known, id_faults, duplicate, node_faults, nodes_faults, ids_of_node}

-- the faults of a node whose value is a list with an id
module _ (ids : List ℤ) (fs gs : List Fault) (e : Entry) (es : List Entry) (n : ℤ) (at : ℕ) where
  -- the faults of a node with an id are those of its entries and of its id
  with_id : inner e.value ≡ Some es → Some (n, at) ≡ first_id (keyed (codes "id") es)
      → gs ≡ fs ++ id_faults (e.value_at, MissingId) (keyed (codes "id") es)
      → gs ++ duplicate ids (Some (n, at)) ≡ fs ++ node_faults ids e
  with_id value id told =
      let own = id_faults (e.value_at, MissingId) (keyed (codes "id") es) in
      ap (λ (hs : List Fault). hs ++ duplicate ids (Some (n, at))) told
      ∙ append_assoc fs own (duplicate ids (Some (n, at)))
      ∙ ap (λ (o : Option (ℤ × ℕ)). fs ++ (own ++ duplicate ids o)) id
      ∙ sym (ap (λ (o : Option (List Entry)). fs ++ elim o [
        | None ↦ (e.value_at, NotAList) ∷ []
        | Some xs ↦ id_faults (e.value_at, MissingId) (keyed (codes "id") xs) ++ duplicate ids
            (first_id (keyed (codes "id") xs))
      ]) value)

  -- a node with the id of an earlier one is at fault
  pub second_node : inner e.value ≡ Some es → Some (n, at) ≡ first_id (keyed (codes "id") es)
      → gs ≡ fs ++ id_faults (e.value_at, MissingId) (keyed (codes "id") es)
      → is_known ids n ≡ true → gs ++ (at, DuplicateNode) ∷ [] ≡ fs ++ node_faults ids e
  second_node value id told known =
      sym (ap (λ (hs : List Fault). gs ++ hs) (cond-true (is_known ids n) ((at, DuplicateNode) ∷ []) [] known))
      ∙ with_id value id told

  -- a node with a new id has no fault but those of its entries
  pub fresh_node : inner e.value ≡ Some es → Some (n, at) ≡ first_id (keyed (codes "id") es)
      → gs ≡ fs ++ id_faults (e.value_at, MissingId) (keyed (codes "id") es)
      → is_known ids n ≡ false → gs ≡ fs ++ node_faults ids e
  fresh_node value id told new =
      sym (append-nil gs) ∙ sym
      (ap (λ (hs : List Fault). gs ++ hs) (cond-false (is_known ids n) ((at, DuplicateNode) ∷ []) [] new))
      ∙ with_id value id told

-- the entries with the key, from one place on and from the next
module _ (key : List ℕ) (es : List Entry) (i : ℕ) (e : Entry) (less : i < length es) (is : e ≡ get_or es i e) where
  -- the entries of a key from one entry on
  keyed_from : keyed key (drop i es)
      ≡ cond (has_key key e) (e ∷ keyed key (drop (i + 1) es)) (keyed key (drop (i + 1) es))
  keyed_from = at_drop_more (keyed key) es i e less ∙ ap (λ (x : Entry). keyed key (x ∷ drop (i + 1) es)) (sym is)

  -- an entry with the key is the first of them
  pub keyed_here : has_key key e ≡ true → keyed key (drop i es) ≡ e ∷ keyed key (drop (i + 1) es)
  keyed_here t = keyed_from
      ∙ cond-true (has_key key e) (e ∷ keyed key (drop (i + 1) es)) (keyed key (drop (i + 1) es)) t

  -- an entry without the key is none of them
  pub keyed_later : has_key key e ≡ false → keyed key (drop i es) ≡ keyed key (drop (i + 1) es)
  keyed_later f = keyed_from
      ∙ cond-false (has_key key e) (e ∷ keyed key (drop (i + 1) es)) (keyed key (drop (i + 1) es)) f

-- a node more
module _ (ids more : List ℤ) (fs gs : List Fault) (e : Entry) (rest all : List Entry) (is : all ≡ e ∷ rest)
    (ids_are : more ≡ ids ++ ids_of_node e) where
  -- the id of the next node is one of the ids
  pub ids_next : more ++ flat_map ids_of_node rest ≡ ids ++ flat_map ids_of_node all
  ids_next =
      ap (λ (ns : List ℤ). ns ++ flat_map ids_of_node rest) ids_are
      ∙ append_assoc ids (ids_of_node e) (flat_map ids_of_node rest)
      ∙ sym (ap (λ (xs : List Entry). ids ++ flat_map ids_of_node xs) is)

  -- the faults of the next node are those of the nodes
  pub nodes_faults_next : gs ≡ fs ++ node_faults ids e → gs ++ nodes_faults more rest ≡ fs ++ nodes_faults ids all
  nodes_faults_next told =
      ap (λ (hs : List Fault). hs ++ nodes_faults more rest) told
      ∙ ap (λ (ns : List ℤ). (fs ++ node_faults ids e) ++ nodes_faults ns rest) ids_are
      ∙ append_assoc fs (node_faults ids e) (nodes_faults (ids ++ ids_of_node e) rest)
      ∙ sym (ap (λ (xs : List Entry). fs ++ nodes_faults ids xs) is)
