-- Lists put together one behind the other, whose orders are kept and that do not cross.
use Rattle.std.proofs.Common.{ℕ, List, [], ◌∷◌, ◌++◌}
use Rattle.cp_lists.specs.CyclicLists.{Distinct}
use Rattle.cp_lists.specs.Turns.{IsTurn}
use Rattle.cp_mergelaw.specs.Sides.{AllUncrossed, EachList, IsMergeOf, RestrictsTo, Uncrossed, is_of}
use Rattle.cp_mergelaw.proofs.UncrossedLists.{AllUncrossed-among, EachList-among, RestrictsTo-refl, RestrictsTo-trans, Uncrossed-part, Uncrossed-part_each, Uncrossed-swap, Uncrossed-whole, appended-RestrictsTo_first, appended-RestrictsTo_second, appended-Uncrossed}

-- a list is put together of itself
pub IsMergeOf-one : (xs : List ℕ) → IsMergeOf xs (xs ∷ [])
IsMergeOf-one xs = record { restricted = (RestrictsTo-refl xs, tt); uncrossed = (tt, tt) }

-- a property of each of two rows of lists
EachList-append : (good : List ℕ → Type 0) (rows others : List (List ℕ)) → EachList good rows → EachList good others
    → EachList good (rows ++ others)
EachList-append good [] others one two = two
EachList-append good (xs ∷ rows) others one two = (one.0, EachList-append good rows others one.1 two)

-- of two rows of lists none is crossed by another
AllUncrossed-append : (whole : List ℕ) (rows others : List (List ℕ))
    → EachList (λ xs. EachList (Uncrossed is_of whole xs) others) rows → AllUncrossed is_of whole rows
    → AllUncrossed is_of whole others → AllUncrossed is_of whole (rows ++ others)
AllUncrossed-append whole [] others between one two = two
AllUncrossed-append whole (xs ∷ rows) others between one two = (
  EachList-append (Uncrossed is_of whole xs) rows others one.0 between.0,
  AllUncrossed-append whole rows others between.1 one.1 two,
)

-- orders that a part keeps are kept by the whole
EachList-whole : (whole mid : List ℕ) (rows : List (List ℕ)) → RestrictsTo whole mid → EachList (RestrictsTo mid) rows
    → EachList (RestrictsTo whole) rows
EachList-whole whole mid [] r each = tt
EachList-whole whole mid (xs ∷ rows) r each =
    (RestrictsTo-trans whole mid xs r each.0, EachList-whole whole mid rows r each.1)

-- lists that a part keeps uncrossed are not crossed in the whole
Uncrossed-whole_each : (whole mid xs : List ℕ) (rows : List (List ℕ)) → RestrictsTo whole mid → RestrictsTo mid xs
    → EachList (RestrictsTo mid) rows → EachList (Uncrossed is_of mid xs) rows
    → EachList (Uncrossed is_of whole xs) rows
Uncrossed-whole_each whole mid xs [] r one each apart = tt
Uncrossed-whole_each whole mid xs (ys ∷ rows) r one each apart = (
  Uncrossed-whole whole mid xs ys r one each.0 apart.0,
  Uncrossed-whole_each whole mid xs rows r one each.1 apart.1,
)

-- no two of them
AllUncrossed-whole : (whole mid : List ℕ) (rows : List (List ℕ)) → RestrictsTo whole mid
    → EachList (RestrictsTo mid) rows → AllUncrossed is_of mid rows → AllUncrossed is_of whole rows
AllUncrossed-whole whole mid [] r each apart = tt
AllUncrossed-whole whole mid (xs ∷ rows) r each apart = (
  Uncrossed-whole_each whole mid xs rows r each.0 each.1 apart.0,
  AllUncrossed-whole whole mid rows r each.1 apart.1,
)

-- two lists, each put together of others, turned and put one behind the other
module _ (xs ys us vs : List ℕ) (one : IsTurn xs us) (two : IsTurn ys vs) (dis : Distinct (us ++ vs)) where
  -- the order of the first is kept
  keeps_first : RestrictsTo (us ++ vs) xs
  keeps_first = appended-RestrictsTo_first xs ys us vs one two dis

  -- and that of the second
  keeps_second : RestrictsTo (us ++ vs) ys
  keeps_second = appended-RestrictsTo_second xs ys us vs one two dis

  -- a list of the second is not crossed by the first
  first-Uncrossed_each : (others : List (List ℕ)) → EachList (RestrictsTo ys) others
      → EachList (Uncrossed is_of (us ++ vs) xs) others
  first-Uncrossed_each [] each = tt
  first-Uncrossed_each (ws ∷ others) each = (
    Uncrossed-swap is_of (us ++ vs) ws xs
        (Uncrossed-part (us ++ vs) ys ws xs each.0
        (Uncrossed-swap is_of (us ++ vs) xs ys (appended-Uncrossed xs ys us vs one two dis))),
    first-Uncrossed_each others each.1,
  )

  -- nor by a list of the first
  between-Uncrossed : (rows others : List (List ℕ)) → EachList (RestrictsTo xs) rows → EachList (RestrictsTo ys) others
      → EachList (λ ws. EachList (Uncrossed is_of (us ++ vs) ws) others) rows
  between-Uncrossed [] others one_each two_each = tt
  between-Uncrossed (ws ∷ rows) others one_each two_each = (
    Uncrossed-part_each (us ++ vs) xs ws others one_each.0 (first-Uncrossed_each others two_each),
    between-Uncrossed rows others one_each.1 two_each,
  )

  -- the two in one are put together of all the lists
  pub appended-IsMergeOf : (rows others : List (List ℕ)) → IsMergeOf xs rows → IsMergeOf ys others
      → IsMergeOf (us ++ vs) (rows ++ others)
  appended-IsMergeOf rows others a b = record {
    restricted = EachList-append (RestrictsTo (us ++ vs)) rows others
        (EachList-whole (us ++ vs) xs rows keeps_first a.restricted)
        (EachList-whole (us ++ vs) ys others keeps_second b.restricted);
    uncrossed = AllUncrossed-append (us ++ vs) rows others (between-Uncrossed rows others a.restricted b.restricted)
        (AllUncrossed-whole (us ++ vs) xs rows keeps_first a.restricted a.uncrossed)
        (AllUncrossed-whole (us ++ vs) ys others keeps_second b.restricted b.uncrossed);
  }

-- what is put together of two lists in one, and of others, is put together of the two and the others
pub IsMergeOf-before : (whole first row us vs : List ℕ) (before behind : List (List ℕ)) → IsTurn first us
    → IsTurn row vs → Distinct (us ++ vs) → IsMergeOf whole ((us ++ vs) ∷ (before ++ behind))
    → IsMergeOf whole (first ∷ (before ++ row ∷ behind))
IsMergeOf-before whole first row us vs before behind one two dis go = record {
  restricted = (
    RestrictsTo-trans whole (us ++ vs) first go.restricted.0 to_first,
    EachList-among (RestrictsTo whole) row before behind
        (RestrictsTo-trans whole (us ++ vs) row go.restricted.0 to_row) go.restricted.1,
  );
  uncrossed = (
    EachList-among (Uncrossed is_of whole first) row before behind
        (Uncrossed-whole whole (us ++ vs) first row go.restricted.0 to_first to_row
        (appended-Uncrossed first row us vs one two dis))
        (Uncrossed-part_each whole (us ++ vs) first (before ++ behind) to_first go.uncrossed.0),
    AllUncrossed-among is_of whole row before behind
        (Uncrossed-part_each whole (us ++ vs) row (before ++ behind) to_row go.uncrossed.0) go.uncrossed.1,
  );
}
  where
    to_first : RestrictsTo (us ++ vs) first
    to_first = appended-RestrictsTo_first first row us vs one two dis

    to_row : RestrictsTo (us ++ vs) row
    to_row = appended-RestrictsTo_second first row us vs one two dis
