-- The first and the second of two trees of one form, by their rows.
use Rattle.std.proofs.Common.{◌≡◌, ℕ, List, [], ◌∷◌, ◌++◌, append_assoc, map, reverse, sym, refl, ap, ap₂, ◌∙◌, subst, subst₂, IsPermutation}
use Rattle.std.proofs.lemmas.List.{append-nil, map-append, reverse-append}
use Rattle.std.proofs.lemmas.List.Sorted.{IsPermutation-append_comm, IsPermutation-append_left, IsPermutation-append_right, IsPermutation-cons, IsPermutation-refl, IsPermutation-trans}
use Rattle.cp_plantlaw.specs.NamedTrees.{Named, tops, word, rows, Paired, PairedRow, first, mirrored, both_tops, paired_rows}

-- a row as one of the first tree, and as one of the second
abbrev pub first_row : PairedRow → ℕ × List ℕ
first_row r = (r.vertex.0, r.edges)

-- and as one of the second
abbrev pub second_row : PairedRow → ℕ × List ℕ
second_row r = (r.vertex.1, r.others)

-- the reverse of a longer list, in front of another
reverse_behind : {A : Type 0} (x : A) (xs ys : List A) → reverse xs ++ x ∷ ys ≡ reverse (x ∷ xs) ++ ys
reverse_behind x xs ys =
    sym (append_assoc (reverse xs) (x ∷ []) ys) ∙ ap (λ zs. zs ++ ys) (sym (reverse-append (x ∷ []) xs))

module _ (partner : ℕ → ℕ) where
  -- the edges to the kids in the first tree
  pub first-tops : (ks : Paired) → tops (first ks) ≡ map (λ k. k.0) (both_tops partner ks)
  first-tops Paired.no_kid = refl
  first-tops (Paired.leaf_kid x ks) = ap (λ zs. x ∷ zs) (first-tops ks)
  first-tops (Paired.node_kid v g inner ks) = ap (λ zs. g.0 ∷ zs) (first-tops ks)

  -- the rows of the first tree
  pub first-rows : (ks : Paired) → rows (first ks) ≡ map first_row (paired_rows partner ks)
  first-rows Paired.no_kid = refl
  first-rows (Paired.leaf_kid x ks) = first-rows ks
  first-rows (Paired.node_kid v g inner ks) =
      ap₂ (λ z zs. z ∷ zs) (ap (λ zs. (v.0, g.0 ∷ zs)) (first-tops inner))
      (ap₂ (λ us zs. us ++ zs) (first-rows inner) (first-rows ks)
      ∙ sym (map-append first_row (paired_rows partner inner) (paired_rows partner ks)))

  -- the edges to the kids in the second tree, from right to left
  pub mirrored-tops : (ks : Paired) (others : Named)
      → tops (mirrored partner ks others) ≡ reverse (map (λ k. k.1) (both_tops partner ks)) ++ tops others
  mirrored-tops Paired.no_kid others = refl
  mirrored-tops (Paired.leaf_kid x ks) others =
      mirrored-tops ks (Named.leaf_kid (partner x) others)
      ∙ reverse_behind (partner x) (map (λ k. k.1) (both_tops partner ks)) (tops others)
  mirrored-tops (Paired.node_kid v g inner ks) others =
      mirrored-tops ks (Named.node_kid v.1 g.1 (mirrored partner inner Named.no_kid) others)
      ∙ reverse_behind g.1 (map (λ k. k.1) (both_tops partner ks)) (tops others)

  -- the leaves of the second tree are the partners of those of the first, from right to left
  pub mirrored-word : (ks : Paired) (others : Named)
      → word (mirrored partner ks others) ≡ reverse (map partner (word (first ks))) ++ word others
  mirrored-word Paired.no_kid others = refl
  mirrored-word (Paired.leaf_kid x ks) others =
      mirrored-word ks (Named.leaf_kid (partner x) others)
      ∙ reverse_behind (partner x) (map partner (word (first ks))) (word others)
  mirrored-word (Paired.node_kid v g inner ks) others =
      let ins : List ℕ = map partner (word (first inner)) in
      let rest : List ℕ = map partner (word (first ks)) in
      mirrored-word ks (Named.node_kid v.1 g.1 (mirrored partner inner Named.no_kid) others)
      ∙ ap (λ zs. reverse rest ++ (zs ++ word others)) (mirrored-word inner Named.no_kid ∙ append-nil (reverse ins))
      ∙ sym (append_assoc (reverse rest) (reverse ins) (word others))
      ∙ ap (λ zs. zs ++ word others) (sym (reverse-append ins rest)
      ∙ ap reverse (sym (map-append partner (word (first inner)) (word (first ks)))))

  -- the rows of the second tree, in some order
  pub mirrored-rows : (ks : Paired) (others : Named)
      → IsPermutation (map second_row (paired_rows partner ks) ++ rows others) (rows (mirrored partner ks others))
  mirrored-rows Paired.no_kid others = IsPermutation-refl (rows others)
  mirrored-rows (Paired.leaf_kid x ks) others = mirrored-rows ks (Named.leaf_kid (partner x) others)
  mirrored-rows (Paired.node_kid v g inner ks) others =
      let below : Named = mirrored partner inner Named.no_kid in
      let ins : List (ℕ × List ℕ) = map second_row (paired_rows partner inner) in
      let rest : List (ℕ × List ℕ) = map second_row (paired_rows partner ks) in
      let row : ℕ × List ℕ = (v.1, g.1 ∷ reverse (map (λ k. k.1) (both_tops partner inner))) in
      let same_row : row ≡ (v.1, g.1 ∷ tops below) =
      ap (λ zs. (v.1, g.1 ∷ zs)) (sym (mirrored-tops inner Named.no_kid ∙ append-nil
      (reverse (map (λ k. k.1) (both_tops partner inner))))) in
      let inside : IsPermutation ins (rows below) =
      subst (λ zs. IsPermutation zs (rows below)) (append-nil ins) (mirrored-rows inner Named.no_kid) in
      let here : IsPermutation (row ∷ ins) ((v.1, g.1 ∷ tops below) ∷ rows below) =
      subst (λ z. IsPermutation (row ∷ ins) (z ∷ rows below)) same_row
      (IsPermutation-cons row ins (rows below) inside) in
      let front : IsPermutation ((row ∷ ins) ++ (rest ++ rows others)) (rest ++ ((row ∷ ins) ++ rows others)) =
      subst₂ IsPermutation (append_assoc (row ∷ ins) rest (rows others)) (append_assoc rest (row ∷ ins) (rows others))
      (IsPermutation-append_left (rows others) ((row ∷ ins) ++ rest) (rest ++ (row ∷ ins))
      (IsPermutation-append_comm (row ∷ ins) rest)) in
      let start : map second_row (paired_rows partner (Paired.node_kid v g inner ks)) ++ rows others
      ≡ (row ∷ ins) ++ (rest ++ rows others) =
      ap (λ zs. row ∷ (zs ++ rows others)) (map-append second_row (paired_rows partner inner) (paired_rows partner ks))
      ∙ append_assoc (row ∷ ins) rest (rows others) in
      subst (λ zs. IsPermutation zs (rows (mirrored partner ks (Named.node_kid v.1 g.1 below others)))) (sym start)
      (IsPermutation-trans ((row ∷ ins) ++ (rest ++ rows others)) (rest ++ ((row ∷ ins) ++ rows others))
      (rows (mirrored partner ks (Named.node_kid v.1 g.1 below others))) front
      (IsPermutation-trans (rest ++ ((row ∷ ins) ++ rows others))
      (rest ++ (((v.1, g.1 ∷ tops below) ∷ rows below) ++ rows others))
      (rows (mirrored partner ks (Named.node_kid v.1 g.1 below others)))
      (IsPermutation-append_right rest ((row ∷ ins) ++ rows others)
      (((v.1, g.1 ∷ tops below) ∷ rows below) ++ rows others)
      (IsPermutation-append_left (rows others) (row ∷ ins) ((v.1, g.1 ∷ tops below) ∷ rows below) here))
      (mirrored-rows ks (Named.node_kid v.1 g.1 below others))))
