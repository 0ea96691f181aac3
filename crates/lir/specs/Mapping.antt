-- Lives, and what is made of each.
use Rattle.std.specs.Prelude.{◌≡◌}
use Rattle.lir.specs.declared.instruction.Lives.{Lives}
use Rattle.lir.specs.declared.instruction.Lives.TheVariants.{Zero, One, Two, Three, Four}

-- what f makes of each live
abbrev pub each_live : {N M : Type 0} → (N → M) → Lives N → Lives M
each_live f Zero = Zero
each_live f (One p) = One (f p)
each_live f (Two p q) = Two (f p) (f q)
each_live f (Three p q s) = Three (f p) (f q) (f s)
each_live f (Four p q s t) = Four (f p) (f q) (f s) (f t)

-- as many lives, each related to the one in its place
abbrev pub Mapped : {N M : Type 0} → (N → M → Type 0) → Lives N → Lives M → Type 0
Mapped R Zero ms = ms ≡ Zero
Mapped {M = M} R (One p) ms = (a : M) × (ms ≡ One a) × R p a
Mapped {M = M} R (Two p q) ms = (a : M) × (b : M) × (ms ≡ Two a b) × R p a × R q b
Mapped {M = M} R (Three p q s) ms = (a : M) × (b : M) × (c : M) × (ms ≡ Three a b c) × R p a × R q b × R s c
Mapped {M = M} R (Four p q s t) ms = (a : M) × (b : M) × (c : M) × (d : M) × (ms ≡ Four a b c d) × R p a × R q b × R s c × R t d

-- where the relation is a function's, what is mapped is what the function makes of each
pub mapped_each : {N M : Type 0} (R : N → M → Type 0) (f : N → M) (gives : (p : N) (a : M) → R p a → a ≡ f p) (ls : Lives N) (ms : Lives M) → Mapped R ls ms → ms ≡ each_live f ls
mapped_each R f gives Zero ms m = m
mapped_each R f gives (One p) ms (a, e, x) = let u = gives p a x in cc
mapped_each R f gives (Two p q) ms (a, b, e, x, y) = let u = gives p a x in let v = gives q b y in cc
mapped_each R f gives (Three p q s) ms (a, b, c, e, x, y, z) = let u = gives p a x in let v = gives q b y in let w = gives s c z in cc
mapped_each R f gives (Four p q s t) ms (a, b, c, d, e, x, y, z, w) = let i = gives p a x in let j = gives q b y in let k = gives s c z in let l = gives t d w in cc
