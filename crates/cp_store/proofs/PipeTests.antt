-- The links of pipes, when pipes go and come.
use Rattle.std.proofs.Common.{◌≡◌, ◌≢◌, ℕ, ◌-◌, ◌<◌, Bool, true, false, not, ◌&&◌, ◌||◌, eqb, ltb, List, [], ◌∷◌, ◌++◌, length, map, sym, refl, ap, ◌∙◌, subst, arith, ⊎_elim}
use Rattle.std.specs.Prelude.{Option, Some, None, filter}
use Rattle.std.specs.List.Sorted.{IsStrictlyIncreasing}
use Rattle.std.proofs.lemmas.Bool.{false≢true, and_parts, cond_both, cond-true, cond-false, cases_eq, eq-eqb, ne_eqb, eqb-true, ltb-true}
use Rattle.std.proofs.lemmas.List.Folds.{list_any-append}
use Rattle.std.proofs.lemmas.List.Elements.{filter_agree}
use Rattle.cp_board.specs.declared.parts.Pipe.{Pipe}
use Rattle.cp_board.specs.Names.{put, by_name, has}
use Rattle.cp_board.proofs.ListTests.{rises}
use Rattle.cp_board.proofs.NamedLists.{under_all, under_all-rises, rises_from, rises_after}
use Rattle.cp_store.specs.declared.links.Link.{Link}
use Rattle.cp_store.specs.declared.links.PipeRoots.{PipeRoots}
use Rattle.cp_store.specs.Exchanges.{under}
use Rattle.cp_store.specs.Forests.{Keeps}
use Rattle.cp_store.specs.Links.{HasLinks, with_link, without_link, down}
use Rattle.cp_store.specs.PipeLinks.{has_degree, has_pole, pipe_links, HasPipeLinks, ArePipeTrees}
use Rattle.cp_store.proofs.ExchangedItems.{Some-same, None-Some}
use Rattle.cp_store.proofs.Grown.{Keeps-next}
use Rattle.cp_store.proofs.Indexes.{HasLinks-keeps, HasLinks-same, HasLinks-none}
use Rattle.cp_store.proofs.LinkChanges.{IsLinkTree-links}

-- the name of a pipe
abbrev pub pipe_name : Pipe → ℕ
pipe_name p = p.name

-- two numbers counted down are equal exactly where the numbers are
pub eqb-down : (n m : ℕ) → n < 18446744073709551616 → m < 18446744073709551616
    → eqb n (18446744073709551615 - m) ≡ eqb (18446744073709551615 - n) m
eqb-down n m fn fm =
    ⊎_elim
    (λ (e : n ≡ 18446744073709551615 - m).
    eq-eqb n (18446744073709551615 - m) e ∙ sym (eq-eqb (18446744073709551615 - n) m (omega (arith, e, fn, fm))))
    (λ (ne : n ≢ 18446744073709551615 - m).
    ne_eqb n (18446744073709551615 - m) ne
    ∙ sym (ne_eqb (18446744073709551615 - n) m (λ e. ne (omega (arith, e, fn, fm)))))
    (cases_eq n (18446744073709551615 - m))

-- one link more, counted down
pub down-with : (test : ℕ → ℕ → Bool) (key m : ℕ) → m < 18446744073709551616 → (k n : ℕ) → n < 18446744073709551616
    → with_link (down test) key (18446744073709551615 - m) k n ≡ down (with_link test key m) k n
down-with test key m fm k n fn =
    ap (λ b. (eqb k key && b) || test k (18446744073709551615 - n)) (eqb-down n m fn fm)

-- one link fewer, counted down
pub down-without : (test : ℕ → ℕ → Bool) (key m : ℕ) → m < 18446744073709551616 → (k n : ℕ)
    → n < 18446744073709551616
    → without_link (down test) key (18446744073709551615 - m) k n ≡ down (without_link test key m) k n
down-without test key m fm k n fn =
    ap (λ b. not (eqb k key && b) && test k (18446744073709551615 - n)) (eqb-down n m fn fm)

-- a pipe that is found under a name has it
pub under-name : (n : ℕ) (ps : List Pipe) (p : Pipe) → under pipe_name n ps ≡ Some p → p.name ≡ n
under-name n [] p found = absurd (None-Some p found)
under-name n (q ∷ ps) p found =
    cond_both (eqb q.name n) (Some q) (under pipe_name n ps) (λ o. o ≡ Some p → p.name ≡ n)
    (λ t h. ap pipe_name (sym (Some-same q p h)) ∙ eqb-true q.name n t)
    (λ f h. under-name n ps p h)
    found

-- all pipes are kept where no name goes
pub kept-all : (ps : List Pipe) → filter (λ p. not (has [] p.name)) ps ≡ ps
kept-all [] = refl
kept-all (p ∷ ps) = ap (λ qs. p ∷ qs) (kept-all ps)

-- one name more goes
pub kept-more : (ns : List ℕ) (n : ℕ) (ps : List Pipe)
    → filter (λ p. not (has ns p.name) && not (eqb p.name n)) ps ≡ filter (λ p. not (has (ns ++ n ∷ []) p.name)) ps
kept-more ns n ps =
    filter_agree (λ (p : Pipe). not (has ns p.name) && not (eqb p.name n))
    (λ (p : Pipe). not (has (ns ++ n ∷ []) p.name)) (λ p. one_more ns p.name) ps
  where
    both : (a b : Bool) → (not a && not b) ≡ not (a || (b || false))
    both true b = refl
    both false true = refl
    both false false = refl

    regroup : (a b c : Bool) → (a || (b || c)) ≡ ((a || b) || c)
    regroup true b c = refl
    regroup false b c = refl

    has-last : (ms : List ℕ) (m : ℕ) → has (ms ++ n ∷ []) m ≡ (has ms m || (eqb m n || false))
    has-last [] m = refl
    has-last (x ∷ ms) m = ap (λ b. eqb m x || b) (has-last ms m) ∙ regroup (eqb m x) (has ms m) (eqb m n || false)

    one_more : (ms : List ℕ) (m : ℕ) → (not (has ms m) && not (eqb m n)) ≡ not (has (ms ++ n ∷ []) m)
    one_more ms m = both (has ms m) (eqb m n) ∙ ap not (sym (has-last ms m))

module _ (has_key : Pipe → ℕ → Bool) where
  -- whether k is a key of a pipe that may be none
  abbrev found_key : Option Pipe → ℕ → Bool
  found_key None k = false
  found_key (Some p) k = has_key p k

  -- no pipe is named by what is below all names
  links-below : (ps : List Pipe) (k n : ℕ) → under_all pipe_name n ps ≡ true → pipe_links has_key ps k n ≡ false
  links-below [] k n u = refl
  links-below (p ∷ ps) k n u =
      let h = and_parts (ltb n p.name) (under_all pipe_name n ps) u in
      let lt = ltb-true n p.name h.0 in
      ap (λ b. (b && has_key p k) || pipe_links has_key ps k n) (ne_eqb n p.name (λ s. omega (arith, s, lt)))
      ∙ links-below ps k n h.1

  -- k is a key of the pipe named n exactly where it is one of the pipe that is found
  pub links-found : (ps : List Pipe) (k n : ℕ) → rises (map pipe_name ps) ≡ true
      → pipe_links has_key ps k n ≡ found_key (under pipe_name n ps) k
  links-found [] k n up = refl
  links-found (p ∷ ps) k n up =
      ⊎_elim
      (λ (same : p.name ≡ n).
      ap (λ b. (b && has_key p k) || pipe_links has_key ps k n) (eq-eqb n p.name (sym same))
      ∙ ap (λ b. has_key p k || b) (links-below ps k n
      (subst (λ m. under_all pipe_name m ps ≡ true) same (under_all-rises pipe_name p.name ps up)))
      ∙ or_false (has_key p k)
      ∙ sym (ap (λ o. found_key o k) (cond-true (eqb p.name n) (Some p) (under pipe_name n ps)
      (eq-eqb p.name n same))))
      (λ (ne : p.name ≢ n).
      ap (λ b. (b && has_key p k) || pipe_links has_key ps k n) (ne_eqb n p.name (λ s. ne (sym s)))
      ∙ links-found ps k n (rises_after pipe_name p ps up)
      ∙ sym (ap (λ o. found_key o k) (cond-false (eqb p.name n) (Some p) (under pipe_name n ps)
      (ne_eqb p.name n ne))))
      (cases_eq p.name n)
    where
      or_false : (b : Bool) → (b || false) ≡ b
      or_false true = refl
      or_false false = refl

  -- the links of pipes whose names are kept
  pub links-kept : (kept : ℕ → Bool) (ps : List Pipe) (k n : ℕ)
      → pipe_links has_key (filter (λ p. kept p.name) ps) k n ≡ (kept n && pipe_links has_key ps k n)
  links-kept kept [] k n = none (kept n)
    where
      none : (b : Bool) → false ≡ (b && false)
      none true = refl
      none false = refl
  links-kept kept (p ∷ ps) k n =
      let rest = links-kept kept ps k n in
      let some : List Pipe = filter (λ q. kept q.name) ps in
      let l : Bool = pipe_links has_key ps k n in
      let test : Bool = eqb n p.name in
      cond_both (kept p.name) (p ∷ some) some
      (λ qs. pipe_links has_key qs k n ≡ (kept n && ((eqb n p.name && has_key p k) || l)))
      (λ t. ap (λ b. (eqb n p.name && has_key p k) || b) rest
      ∙ stays (eqb n p.name) (has_key p k) (kept n) l (λ e. ap kept (eqb-true n p.name e) ∙ t))
      (λ f. rest ∙ goes (eqb n p.name) (has_key p k) (kept n) l (λ e. ap kept (eqb-true n p.name e) ∙ f))
    where
      stays : (e h t l : Bool) → (e ≡ true → t ≡ true) → ((e && h) || (t && l)) ≡ (t && ((e && h) || l))
      stays true h true l g = refl
      stays true h false l g = absurd (false≢true (g refl))
      stays false h true l g = refl
      stays false h false l g = refl

      goes : (e h t l : Bool) → (e ≡ true → t ≡ false) → (t && l) ≡ (t && ((e && h) || l))
      goes true h true l g = absurd (false≢true (sym (g refl)))
      goes true h false l g = refl
      goes false h true l g = refl
      goes false h false l g = refl

  -- one pipe more
  pub links-more : (ps : List Pipe) (p : Pipe) (k n : ℕ)
      → pipe_links has_key (ps ++ p ∷ []) k n ≡ (pipe_links has_key ps k n || ((eqb n p.name && has_key p k) || false))
  links-more ps p k n = list_any-append (λ (q : Pipe). eqb n q.name && has_key q k) ps (p ∷ [])

  -- the order of names keeps the links
  links-put : (x : Pipe) (ys : List Pipe) (k n : ℕ)
      → pipe_links has_key (put pipe_name x ys) k n ≡ pipe_links has_key (x ∷ ys) k n
  links-put x [] k n = refl
  links-put x (y ∷ ys) k n =
      cond_both (ltb x.name y.name) (x ∷ y ∷ ys) (y ∷ put pipe_name x ys)
      (λ zs. pipe_links has_key zs k n ≡ pipe_links has_key (x ∷ y ∷ ys) k n)
      (λ t. refl)
      (λ f. ap (λ b. (eqb n y.name && has_key y k) || b) (links-put x ys k n)
      ∙ swapped (eqb n y.name && has_key y k) (eqb n x.name && has_key x k) (pipe_links has_key ys k n))
    where
      swapped : (p q r : Bool) → (p || (q || r)) ≡ (q || (p || r))
      swapped true true r = refl
      swapped true false r = refl
      swapped false q r = refl

  -- pipes in the order of their names have the same links
  pub links-by_name : (xs : List Pipe) (k n : ℕ)
      → pipe_links has_key (by_name pipe_name xs) k n ≡ pipe_links has_key xs k n
  links-by_name [] k n = refl
  links-by_name (x ∷ xs) k n = links-put x (by_name pipe_name xs) k n
      ∙ ap (λ b. (eqb n x.name && has_key x k) || b) (links-by_name xs k n)

-- one link more is that of one pipe more
pub rank-more : (ps : List Pipe) (p : Pipe) (k n : ℕ)
    → with_link (pipe_links has_degree ps) (length p.pairs) p.name k n ≡ pipe_links has_degree (ps ++ p ∷ []) k n
rank-more ps p k n = turn (eqb k (length p.pairs)) (eqb n p.name) (pipe_links has_degree ps k n)
    ∙ sym (links-more has_degree ps p k n)
  where
    turn : (a b l : Bool) → ((a && b) || l) ≡ (l || ((b && a) || false))
    turn true true true = refl
    turn true true false = refl
    turn true false true = refl
    turn true false false = refl
    turn false true true = refl
    turn false true false = refl
    turn false false true = refl
    turn false false false = refl

-- two links more are those of one pipe more
pub poles-more : (ps : List Pipe) (p : Pipe) (k n : ℕ)
    → with_link (with_link (pipe_links has_pole ps) p.a p.name) p.b p.name k n
    ≡ pipe_links has_pole (ps ++ p ∷ []) k n
poles-more ps p k n = turn (eqb k p.a) (eqb k p.b) (eqb n p.name) (pipe_links has_pole ps k n)
    ∙ sym (links-more has_pole ps p k n)
  where
    turn : (a b n l : Bool) → ((b && n) || ((a && n) || l)) ≡ (l || ((n && (a || b)) || false))
    turn true true true true = refl
    turn true true true false = refl
    turn true true false true = refl
    turn true true false false = refl
    turn true false true true = refl
    turn true false true false = refl
    turn true false false true = refl
    turn true false false false = refl
    turn false true true true = refl
    turn false true true false = refl
    turn false true false true = refl
    turn false true false false = refl
    turn false false true true = refl
    turn false false true false = refl
    turn false false false true = refl
    turn false false false false = refl

module _ (kept : ℕ → Bool) (ps : List Pipe) (p : Pipe) (up : IsStrictlyIncreasing (map pipe_name ps))
    (found : under pipe_name p.name ps ≡ Some p) where
  -- the keys of the pipe are those of its name
  keys-here : (has_key : Pipe → ℕ → Bool) (k n : ℕ) → eqb n p.name ≡ true
      → pipe_links has_key ps k n ≡ has_key p k
  keys-here has_key k n e =
      links-found has_key ps k n (rises_from (map pipe_name ps) up)
      ∙ ap (λ m. found_key has_key (under pipe_name m ps) k) (eqb-true n p.name e)
      ∙ ap (λ o. found_key has_key o k) found

  -- one link fewer is that of one pipe fewer
  pub rank-less : (k n : ℕ)
      → without_link (pipe_links has_degree (filter (λ q. kept q.name) ps)) (length p.pairs) p.name k n
      ≡ pipe_links has_degree (filter (λ q. kept q.name && not (eqb q.name p.name)) ps) k n
  rank-less k n =
      ap (λ b. not (eqb k (length p.pairs) && eqb n p.name) && b) (links-kept has_degree kept ps k n)
      ∙ off (eqb n p.name) (eqb k (length p.pairs)) (kept n) (pipe_links has_degree ps k n)
      (keys-here has_degree k n)
      ∙ sym (links-kept has_degree (λ m. kept m && not (eqb m p.name)) ps k n)
    where
      here : (x t : Bool) → (not (x && true) && (t && x)) ≡ ((t && false) && x)
      here true true = refl
      here true false = refl
      here false true = refl
      here false false = refl

      off : (e x t l : Bool) → (e ≡ true → l ≡ x) → (not (x && e) && (t && l)) ≡ ((t && not e) && l)
      off true x t l h = subst (λ m. (not (x && true) && (t && m)) ≡ ((t && false) && m)) (sym (h refl)) (here x t)
      off false true true l h = refl
      off false true false l h = refl
      off false false true l h = refl
      off false false false l h = refl

  -- two links fewer are those of one pipe fewer
  pub poles-less : (k n : ℕ)
      → without_link (without_link (pipe_links has_pole (filter (λ q. kept q.name) ps)) p.a p.name) p.b p.name k n
      ≡ pipe_links has_pole (filter (λ q. kept q.name && not (eqb q.name p.name)) ps) k n
  poles-less k n =
      ap (λ b. not (eqb k p.b && eqb n p.name) && (not (eqb k p.a && eqb n p.name) && b))
      (links-kept has_pole kept ps k n)
      ∙ off (eqb n p.name) (eqb k p.a) (eqb k p.b) (kept n) (pipe_links has_pole ps k n) (keys-here has_pole k n)
      ∙ sym (links-kept has_pole (λ m. kept m && not (eqb m p.name)) ps k n)
    where
      here : (x y t : Bool)
          → (not (y && true) && (not (x && true) && (t && (x || y)))) ≡ ((t && false) && (x || y))
      here true true true = refl
      here true true false = refl
      here true false true = refl
      here true false false = refl
      here false true true = refl
      here false true false = refl
      here false false true = refl
      here false false false = refl

      off : (e x y t l : Bool) → (e ≡ true → l ≡ (x || y))
          → (not (y && e) && (not (x && e) && (t && l))) ≡ ((t && not e) && l)
      off true x y t l h =
          subst (λ m. (not (y && true) && (not (x && true) && (t && m))) ≡ ((t && false) && m)) (sym (h refl))
          (here x y t)
      off false true true true l h = refl
      off false true true false l h = refl
      off false true false true l h = refl
      off false true false false l h = refl
      off false false true true l h = refl
      off false false true false l h = refl
      off false false false true l h = refl
      off false false false false l h = refl

-- a name that no pipe has can be given up
links-none : (has_key : Pipe → ℕ → Bool) (kept : ℕ → Bool) (ps : List Pipe) (m : ℕ)
    → rises (map pipe_name ps) ≡ true
    → under pipe_name m ps ≡ None
    → (k n : ℕ) → pipe_links has_key (filter (λ q. kept q.name) ps) k n
    ≡ pipe_links has_key (filter (λ q. kept q.name && not (eqb q.name m)) ps) k n
links-none has_key kept ps m up none k n =
    links-kept has_key kept ps k n
    ∙ off (eqb n m) (kept n) (pipe_links has_key ps k n)
    (λ e. links-found has_key ps k n up
    ∙ ap (λ r. found_key has_key (under pipe_name r ps) k) (eqb-true n m e)
    ∙ ap (λ o. found_key has_key o k) none)
    ∙ sym (links-kept has_key (λ r. kept r && not (eqb r m)) ps k n)
  where
    here : (t : Bool) → (t && false) ≡ ((t && false) && false)
    here true = refl
    here false = refl

    off : (e t l : Bool) → (e ≡ true → l ≡ false) → (t && l) ≡ ((t && not e) && l)
    off true t l h = subst (λ m. (t && m) ≡ ((t && false) && m)) (sym (h refl)) (here t)
    off false true l h = refl
    off false false l h = refl

-- trees that are kept have the links of the pipes
pub HasPipeLinks-keeps : (ls ms : List (List Link)) (roots : PipeRoots) (ps : List Pipe) → Keeps ls ms
    → HasPipeLinks ls roots ps → HasPipeLinks ms roots ps
HasPipeLinks-keeps ls ms roots ps keeps has = record {
  ranks = HasLinks-keeps ls ms roots.ranks (down (pipe_links has_degree ps)) keeps has.ranks;
  poles = HasLinks-keeps ls ms roots.poles (pipe_links has_pole ps) keeps has.poles;
}

-- pipes with the same links
pub HasPipeLinks-same : (ls : List (List Link)) (roots : PipeRoots) (ps qs : List Pipe)
    → ((has_key : Pipe → ℕ → Bool) (k n : ℕ) → pipe_links has_key ps k n ≡ pipe_links has_key qs k n)
    → HasPipeLinks ls roots ps → HasPipeLinks ls roots qs
HasPipeLinks-same ls roots ps qs same has = record {
  ranks = HasLinks-same ls roots.ranks (down (pipe_links has_degree ps)) (down (pipe_links has_degree qs))
      (λ k n lt. same has_degree k (18446744073709551615 - n)) has.ranks;
  poles = HasLinks-same ls roots.poles (pipe_links has_pole ps) (pipe_links has_pole qs)
      (λ k n lt. same has_pole k n) has.poles;
}

-- pipes in the order of their names have the same links
pub HasPipeLinks-by_name : (ls : List (List Link)) (roots : PipeRoots) (ps : List Pipe) → HasPipeLinks ls roots ps
    → HasPipeLinks ls roots (by_name pipe_name ps)
HasPipeLinks-by_name ls roots ps =
    HasPipeLinks-same ls roots ps (by_name pipe_name ps) (λ has_key k n. sym (links-by_name has_key ps k n))

-- links without those of a name that no pipe has
pub HasPipeLinks-none : (ls : List (List Link)) (roots : PipeRoots) (kept : ℕ → Bool) (ps : List Pipe) (m : ℕ)
    → rises (map pipe_name ps) ≡ true
    → under pipe_name m ps ≡ None
    → HasPipeLinks ls roots (filter (λ q. kept q.name) ps)
    → HasPipeLinks ls roots (filter (λ q. kept q.name && not (eqb q.name m)) ps)
HasPipeLinks-none ls roots kept ps m up none =
    HasPipeLinks-same ls roots (filter (λ q. kept q.name) ps)
    (filter (λ q. kept q.name && not (eqb q.name m)) ps)
    (λ has_key. links-none has_key kept ps m up none)

-- a forest without nodes has the links of no pipes
pub HasPipeLinks-empty : (roots : PipeRoots) → roots.ranks ≡ 0 → roots.poles ≡ 0 → HasPipeLinks [] roots []
HasPipeLinks-empty roots r p = record {
  ranks = subst (λ t. HasLinks [] t (λ k n. false)) (sym r) HasLinks-none;
  poles = subst (λ t. HasLinks [] t (λ k n. false)) (sym p) HasLinks-none;
}

-- trees of the links of pipes are trees of links
pub ArePipeTrees-links : (ls : List (List Link)) (roots : PipeRoots) (ps : List Pipe) → HasPipeLinks ls roots ps
    → ArePipeTrees ls roots
ArePipeTrees-links ls roots ps has = record {
  ranks = IsLinkTree-links ls roots.ranks (down (pipe_links has_degree ps)) has.ranks;
  poles = IsLinkTree-links ls roots.poles (pipe_links has_pole ps) has.poles;
}

-- trees with the links of one pipe more
pub HasPipeLinks-more : (ls ms ns os : List (List Link)) (roots : PipeRoots) (ranks first poles : ℕ) (ps : List Pipe)
    (p : Pipe) (degree : ℕ) → degree ≡ length p.pairs
    → Keeps ls ms → Keeps ms ns → Keeps ns os
    → ((test : ℕ → ℕ → Bool) → HasLinks ls roots.ranks (down test)
    → HasLinks ms ranks (down (with_link test degree p.name)))
    → ((test : ℕ → ℕ → Bool) → HasLinks ms roots.poles test → HasLinks ns first (with_link test p.a p.name))
    → ((test : ℕ → ℕ → Bool) → HasLinks ns first test → HasLinks os poles (with_link test p.b p.name))
    → HasPipeLinks ls roots ps
    → HasPipeLinks os (record { ranks = ranks; poles = poles }) (ps ++ p ∷ [])
HasPipeLinks-more ls ms ns os roots ranks first poles ps p degree size k1 k2 k3 by_degree by_a by_b has = record {
  ranks = HasLinks-same os ranks (down (with_link (pipe_links has_degree ps) degree p.name))
      (down (pipe_links has_degree (ps ++ p ∷ [])))
      (λ k n lt. ap (λ d. with_link (pipe_links has_degree ps) d p.name k (18446744073709551615 - n)) size
      ∙ rank-more ps p k (18446744073709551615 - n))
      (HasLinks-keeps ms os ranks (down (with_link (pipe_links has_degree ps) degree p.name))
      (Keeps-next ms ns os k2 k3) (by_degree (pipe_links has_degree ps) has.ranks));
  poles = HasLinks-same os poles (with_link (with_link (pipe_links has_pole ps) p.a p.name) p.b p.name)
      (pipe_links has_pole (ps ++ p ∷ [])) (λ k n lt. poles-more ps p k n)
      (by_b (with_link (pipe_links has_pole ps) p.a p.name)
      (by_a (pipe_links has_pole ps) (HasLinks-keeps ls ms roots.poles (pipe_links has_pole ps) k1 has.poles)));
}

-- trees without the links of a pipe
pub HasPipeLinks-less : (ls ms ns os : List (List Link)) (roots : PipeRoots) (ranks first poles : ℕ)
    (kept : ℕ → Bool) (ps : List Pipe) (p : Pipe) (degree : ℕ) → degree ≡ length p.pairs
    → Keeps ls ms → Keeps ms ns → Keeps ns os
    → ((test : ℕ → ℕ → Bool) → HasLinks ls roots.ranks (down test)
    → HasLinks ms ranks (down (without_link test degree p.name)))
    → ((test : ℕ → ℕ → Bool) → HasLinks ms roots.poles test → HasLinks ns first (without_link test p.a p.name))
    → ((test : ℕ → ℕ → Bool) → HasLinks ns first test → HasLinks os poles (without_link test p.b p.name))
    → IsStrictlyIncreasing (map pipe_name ps)
    → under pipe_name p.name ps ≡ Some p
    → HasPipeLinks ls roots (filter (λ q. kept q.name) ps)
    → HasPipeLinks os (record { ranks = ranks; poles = poles })
    (filter (λ q. kept q.name && not (eqb q.name p.name)) ps)
HasPipeLinks-less ls ms ns os roots ranks first poles kept ps p degree size k1 k2 k3 by_degree by_a by_b up found has =
    let some : List Pipe = filter (λ (q : Pipe). kept q.name) ps in
    let fewer : List Pipe = filter (λ (q : Pipe). kept q.name && not (eqb q.name p.name)) ps in
    record {
      ranks = HasLinks-same os ranks (down (without_link (pipe_links has_degree some) degree p.name))
          (down (pipe_links has_degree fewer))
          (λ k n lt. ap (λ d. without_link (pipe_links has_degree some) d p.name k (18446744073709551615 - n)) size
          ∙ rank-less kept ps p up found k (18446744073709551615 - n))
          (HasLinks-keeps ms os ranks (down (without_link (pipe_links has_degree some) degree p.name))
          (Keeps-next ms ns os k2 k3) (by_degree (pipe_links has_degree some) has.ranks));
      poles = HasLinks-same os poles (without_link (without_link (pipe_links has_pole some) p.a p.name) p.b p.name)
          (pipe_links has_pole fewer) (λ k n lt. poles-less kept ps p up found k n)
          (by_b (without_link (pipe_links has_pole some) p.a p.name)
          (by_a (pipe_links has_pole some) (HasLinks-keeps ls ms roots.poles (pipe_links has_pole some) k1 has.poles)));
    }
