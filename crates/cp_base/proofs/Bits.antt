-- Sums of bits.
use Rattle.std.proofs.Common.{◌≡◌, Bool, true, false, refl}
use Rattle.cp_base.specs.Bits.{differ}

-- a bit is no different from itself
pub differ_same : (a : Bool) → differ a a ≡ false
differ_same true = refl
differ_same false = refl

-- the order of two bits does not matter
pub differ-comm : (a b : Bool) → differ a b ≡ differ b a
differ-comm true true = refl
differ-comm true false = refl
differ-comm false true = refl
differ-comm false false = refl

-- the middle one of three bits falls out
pub differ_through : (a b c : Bool) → differ (differ a b) (differ b c) ≡ differ a c
differ_through true true true = refl
differ_through true true false = refl
differ_through true false true = refl
differ_through true false false = refl
differ_through false true true = refl
differ_through false true false = refl
differ_through false false true = refl
differ_through false false false = refl

-- brackets do not matter
pub differ-assoc : (a b c : Bool) → differ (differ a b) c ≡ differ a (differ b c)
differ-assoc true true true = refl
differ-assoc true true false = refl
differ-assoc true false true = refl
differ-assoc true false false = refl
differ-assoc false true true = refl
differ-assoc false true false = refl
differ-assoc false false true = refl
differ-assoc false false false = refl

-- nothing changes nothing
pub differ_false : (a : Bool) → differ false a ≡ a
differ_false true = refl
differ_false false = refl

-- a second bit that is added twice falls out
pub differ_twice : (a b : Bool) → differ (differ a b) b ≡ a
differ_twice true true = refl
differ_twice true false = refl
differ_twice false true = refl
differ_twice false false = refl

-- a first bit that is added twice falls out
pub differ_back : (a b : Bool) → differ (differ a b) a ≡ b
differ_back true true = refl
differ_back true false = refl
differ_back false true = refl
differ_back false false = refl
