-- Lists of events, and why a plan without a clash reads alike in every allowed order.
use mathlib.Core.Path.{sym, ◌∙◌, subst}
use mathlib.Core.Logic.{◌⊎◌, inl, inr, ◌≢◌, ⊎_elim}
use mathlib.Core.List.{List, [], ◌∷◌}
use Prim.Native.Nat.{ℕ}
use lib.Dec.{T}
use Rattle.rules.specs.Rules.{depot}
use Rattle.graph.specs.History.{History}
use Rattle.graph.specs.Graph.{IsAccess}
use Rattle.graph.specs.Orders.{In, Ahead, Allowed}
use Rattle.graph.specs.Reads.{LastWrite, NoLastWrite, AddSince, ClashFree}
use Rattle.graph.specs.Theorems.{ClashFreeReadsAlike}

pub ahead_total : (l : List ℕ) (x y : ℕ) → In l x → In l y → x ≢ y → Ahead l x y ⊎ Ahead l y x
ahead_total [] x y p q n = absurd p
ahead_total (z ∷ l) x y (inl p) (inl q) n = absurd (n (sym p ∙ q))
ahead_total (z ∷ l) x y (inl p) (inr q) n = inl (inl (p, q))
ahead_total (z ∷ l) x y (inr p) (inl q) n = inr (inl (q, p))
ahead_total (z ∷ l) x y (inr p) (inr q) n = ⊎_elim (λ a. inl (inr a)) (λ a. inr (inr a)) (ahead_total l x y p q n)

pub ahead_first : (l : List ℕ) (x y : ℕ) → Ahead l x y → In l x
ahead_first [] x y a = absurd a
ahead_first (z ∷ l) x y (inl a) = inl a.0
ahead_first (z ∷ l) x y (inr a) = inr (ahead_first l x y a)

pub ahead_second : (l : List ℕ) (x y : ℕ) → Ahead l x y → In l y
ahead_second [] x y a = absurd a
ahead_second (z ∷ l) x y (inl a) = inr a.1
ahead_second (z ∷ l) x y (inr a) = inr (ahead_second l x y a)

module _ (h : History) (free : ClashFree depot h) where
  -- two accesses that clash stand the same way round in every allowed order
  same_way : (l m : List ℕ) → Allowed h l → Allowed h m → (x y a b r : ℕ) → IsAccess h x a r → IsAccess h y b r → T (depot a b) → Ahead l x y → Ahead m x y
  same_way l m al am x y a b r ix iy cl ah =
      ⊎_elim (λ f. f) (λ back. absurd (⊎_elim (am.kept y x back) (al.kept x y ah) (free x y a b r ix iy apart cl)))
      (ahead_total m x y ((am.all x).0 ((al.all x).1 (ahead_first l x y ah))) ((am.all y).0 ((al.all y).1 (ahead_second l x y ah))) apart)
    where
      apart : x ≢ y
      apart e = al.once y (subst (λ z. Ahead l z y) e ah)

  last_write : (l m : List ℕ) → Allowed h l → Allowed h m → (x r w : ℕ) → IsAccess h x 0 r → LastWrite h r l x w → LastWrite h r m x w
  last_write l m al am x r w ix lw = record {
    write = lw.write;
    ahead = same_way l m al am w x 1 0 r lw.write ix tt lw.ahead;
    nearest = λ v iv wv vx. lw.nearest v iv (same_way m l am al w v 1 1 r lw.write iv tt wv) (same_way m l am al v x 1 0 r iv ix tt vx);
  }

  no_last_write : (l m : List ℕ) → Allowed h l → Allowed h m → (x r : ℕ) → IsAccess h x 0 r → NoLastWrite h r l x → NoLastWrite h r m x
  no_last_write l m al am x r ix none w iw wx = none w iw (same_way m l am al w x 1 0 r iw ix tt wx)

  add_since : (l m : List ℕ) → Allowed h l → Allowed h m → (x r a : ℕ) → IsAccess h x 0 r → AddSince h r l x a → AddSince h r m x a
  add_since l m al am x r a ix ad = record {
    add = ad.add;
    ahead = same_way l m al am a x 2 0 r ad.add ix tt ad.ahead;
    since = λ v iv wv vx. ad.since v iv (same_way m l am al a v 2 1 r ad.add iv tt wv) (same_way m l am al v x 1 0 r iv ix tt vx);
  }

pub clash_free_reads_alike : ClashFreeReadsAlike
clash_free_reads_alike h free l m al am x r ix = record {
  last = λ w. (last_write h free l m al am x r w ix, last_write h free m l am al x r w ix);
  none = (no_last_write h free l m al am x r ix, no_last_write h free m l am al x r ix);
  adds = λ a. (add_since h free l m al am x r a ix, add_since h free m l am al x r a ix);
}
