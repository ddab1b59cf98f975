-- Whether one of the guarded cookies of a host has a name.
use mathlib.Core.Path.{◌≡◌, refl, sym, ◌∙◌, ap}
use mathlib.Core.Bool.{Bool, true, false, cond, ◌&&◌, ◌||◌}
use mathlib.Core.List.{List, [], ◌∷◌}
use Rattle.std.specs.Prelude.{Option, Some as some}
use Rattle.types.specs.declared.Host.{Host}
use Rattle.types.specs.declared.cookies.Cookie.{Cookie}
use Rattle.types.specs.declared.rows.HostCookie.{HostCookie}
use Rattle.sorted.specs.Table.{find, keep, is_some}
use Rattle.tables.specs.Rows.{same_host, same_name}
use Rattle.wim.specs.Cookies.{guarded}

-- the guarded ones of a host are found in the whole table
module _ (h : Host) (c : Cookie) where
  abbrev of_host : HostCookie → Bool
  of_host r = same_host r.host h

  abbrev guards : HostCookie → Bool
  guards r = same_name r.cookie.name c.name && r.cookie.httponly

  abbrev pub guards_of : HostCookie → Bool
  guards_of r = of_host r && guards r

  pub guarded-found : (all : List HostCookie) → is_some (find guards_of all) ≡ guarded (keep of_host all) c
  unfolding find keep
  guarded-found [] = refl
  guarded-found (r ∷ all) = go (of_host r) (guards r) (find (λ (s : HostCookie). of_host s && guards s) all) (keep of_host all) refl (guarded-found all)
    where
      hit : (b : Bool) (o : Option HostCookie) (own : List HostCookie) → is_some o ≡ guarded own c → is_some (cond b (some r) o) ≡ (b || guarded own c)
      hit true o own e = refl
      hit false o own e = e

      go : (a b : Bool) (o : Option HostCookie) (own : List HostCookie) → guards r ≡ b → is_some o ≡ guarded own c → is_some (cond (a && b) (some r) o) ≡ guarded (cond a (r ∷ own) own) c
      go true b o own q e = hit b o own e ∙ ap (λ (x : Bool). x || guarded own c) (sym q)
      go false b o own q e = e
