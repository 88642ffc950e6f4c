-- The moves of a group, with one more.
use Rattle.std.proofs.Common.{◌≡◌, ℕ, zero, suc, ◌<◌, List, [], ◌∷◌, ◌++◌, length, map, get_or, refl, sym, ap, ◌∙◌, subst, arith, All}
use Rattle.std.specs.List.{AllPairs}
use Rattle.std.proofs.lemmas.List.{get_or-map, get_or_default, length-map, length_push, map_push}
use Rattle.std.proofs.lemmas.List.Elements.{All-push}
use Rattle.std.proofs.lemmas.List.Quantifiers.{all_pairs_push}
use Rattle.std.proofs.lemmas.List.Sorted.{IsPermutation-map, IsPermutation-to_front}
use Rattle.zac_arch.specs.Architecture.{Architecture, IsInZone}
use Rattle.zac_arch.specs.Rules.{HasFigureRanges}
use Rattle.zac_group.specs.declared.members.Members.{Members}
use Rattle.zac_group.specs.declared.route.Route.{Route}
use Rattle.zac_group.specs.declared.route.Zones.{Zones}
use Rattle.zac_group.specs.declared.shift.Shift.{Shift}
use Rattle.zac_group.specs.declared.tracks.Track.{Track}
use Rattle.zac_group.specs.FirstFit.{Fits}
use Rattle.zac_group.specs.Groups.{IsWithinLimits, count_distinct}
use Rattle.zac_group.specs.Members.{IsMembers, IsRoute, column, column_of, moves, row, row_of}
use Rattle.zac_group.specs.Moves.{AreInOneZone, IsCompatible, source_x, source_y, target_x, target_y}
use Rattle.zac_group.specs.Tracks.{AreTracksOf, KeepsOrder, Takes}
use Rattle.zac_group.proofs.Compare.{cmp_flip}
use Rattle.zac_group.proofs.Distinct.{count_permutes}
use Rattle.zac_group.proofs.TrackFacts.{begins, count_of, joined_more, keeps_back, keeps_of}
use Rattle.zac_group.proofs.Zones.{one_zone}

pub column_is : (a : Architecture) (r : Route) → IsRoute a r → column r ≡ column_of a r.shift
column_is a r h = λ i. record { from = (h.from i).x; to = (h.to i).x }

pub row_is : (a : Architecture) (r : Route) → IsRoute a r → row r ≡ row_of a r.shift
row_is a r h = λ i. record { from = (h.from i).y; to = (h.to i).y }

-- whether two moves are compatible is the same either way
pub compatible_back : (a : Architecture) (s t : Shift) → IsCompatible a s t → IsCompatible a t s
compatible_back a s t h = record {
  one_source = (h.one_source.0, h.one_source.2, h.one_source.1);
  one_target = (h.one_target.0, h.one_target.2, h.one_target.1);
  columns = cmp_flip (source_x a s) (source_x a t) (target_x a s) (target_x a t) h.columns;
  rows = cmp_flip (source_y a s) (source_y a t) (target_y a s) (target_y a t) h.rows;
}

-- the columns of moves begin at the x of their sources
begins_x : (a : Architecture) (ss : List Shift) → begins (map (column_of a) ss) ≡ map (source_x a) ss
begins_x a [] = refl
begins_x a (s ∷ ss) = ap (λ (l : List ℕ). source_x a s ∷ l) (begins_x a ss)

begins_y : (a : Architecture) (ss : List Shift) → begins (map (row_of a) ss) ≡ map (source_y a) ss
begins_y a [] = refl
begins_y a (s ∷ ss) = ap (λ (l : List ℕ). source_y a s ∷ l) (begins_y a ss)

count_end : (f : Shift → ℕ) (s : Shift) (ss : List Shift) → count_distinct (map f (s ∷ ss)) ≡ count_distinct (map f (ss ++ s ∷ []))
count_end f s ss = sym (count_permutes (map f (ss ++ s ∷ [])) (map f (s ∷ ss)) (IsPermutation-map f (ss ++ s ∷ []) (s ∷ ss) (IsPermutation-to_front ss s)))

within_end : (a : Architecture) (s : Shift) (ss : List Shift) → IsWithinLimits a (s ∷ ss) → IsWithinLimits a (ss ++ s ∷ [])
within_end a s ss h =
    let rows = h.rows in
    let columns = h.columns in
    let few_rows = count_end (source_y a) s ss in
    let few_columns = count_end (source_x a) s ss in
    record { rows = omega arith; columns = omega arith }

-- the first move of a group
first_in : (m : Members) (a : Architecture) (d : Route) → IsMembers a m → get_or (moves m.routes.items) 0 d.shift ≡ (get_or m.routes.items 0 d).shift
first_in m a d h = let some = h.some in get_or-map (λ (r : Route). r.shift) m.routes.items 0 d d.shift (omega arith)

-- a zone that has a trap of a route and one of the group's first route is the group's
same_zones : (a : Architecture) (m : Members) (r : Route) → IsMembers a m → IsRoute a r → IsCompatible a r.shift (get_or m.routes.items 0 r).shift → r.zones ≡ m.zones
same_zones a m r h is compatible =
    let some = h.some in
    let first : Route = get_or m.routes.items 0 r in
    let first_is : IsRoute a first = h.routes 0 r (omega arith) in
    let zones : first.zones ≡ m.zones = h.zones 0 r (omega arith) in
    let from : r.zones.from ≡ m.zones.from =
    one_zone a r.shift.from.0 r.zones.from compatible.one_source.0 is.from_zone compatible.one_source.1
    ∙ one_zone a first.shift.from.0 compatible.one_source.0 first.zones.from compatible.one_source.2 first_is.from_zone
    ∙ ap (λ (z : Zones). z.from) zones in
    let to : r.zones.to ≡ m.zones.to =
    one_zone a r.shift.to.0 r.zones.to compatible.one_target.0 is.to_zone compatible.one_target.1
    ∙ one_zone a first.shift.to.0 compatible.one_target.0 first.zones.to compatible.one_target.2 first_is.to_zone
    ∙ ap (λ (z : Zones). z.to) zones in
    λ i. record { from = from i; to = to i }

pub fits_zones : (a : Architecture) (m : Members) (r : Route) → IsMembers a m → IsRoute a r → Fits a (moves m.routes.items) r.shift → m.zones ≡ r.zones
fits_zones a m r h is fits =
    let some = h.some in
    let long = length-map m.routes.items (λ (x : Route). x.shift) in
    let compatible : IsCompatible a r.shift (get_or (moves m.routes.items) 0 r.shift) = fits.compatible 0 r.shift (omega arith) in
    sym (same_zones a m r h is (subst (λ (s : Shift). IsCompatible a r.shift s) (first_in m a r h) compatible))

pub fits_columns : (a : Architecture) (m : Members) (r : Route) → IsMembers a m → IsRoute a r → Fits a (moves m.routes.items) r.shift → Takes m.columns.items (column r) a.figures.columns
fits_columns a m r h is fits =
    let ss = moves m.routes.items in
    subst (λ (t : Track). Takes m.columns.items t a.figures.columns) (sym (column_is a r is)) (
      keeps_back (map (column_of a) ss) m.columns.items (column_of a r.shift) h.columns
          (λ k d lt. let lt_too : k < length ss = omega (arith, length-map ss (column_of a)) in
          subst (λ (t : Track). KeepsOrder (column_of a r.shift) t)
          (sym (get_or-map (column_of a) ss k r.shift d lt_too)) (fits.compatible k r.shift lt_too).columns),
      let counted = count_of (map (column_of a) ss) m.columns.items (column_of a r.shift) h.columns in
          let begin = ap (λ (l : List ℕ). count_distinct (source_x a r.shift ∷ l)) (begins_x a ss) in
          let few = fits.within.columns in
          omega arith,
    )

pub fits_rows : (a : Architecture) (m : Members) (r : Route) → IsMembers a m → IsRoute a r → Fits a (moves m.routes.items) r.shift → Takes m.rows.items (row r) a.figures.rows
fits_rows a m r h is fits =
    let ss = moves m.routes.items in
    subst (λ (t : Track). Takes m.rows.items t a.figures.rows) (sym (row_is a r is)) (
      keeps_back (map (row_of a) ss) m.rows.items (row_of a r.shift) h.rows
          (λ k d lt. let lt_too : k < length ss = omega (arith, length-map ss (row_of a)) in
          subst (λ (t : Track). KeepsOrder (row_of a r.shift) t)
          (sym (get_or-map (row_of a) ss k r.shift d lt_too)) (fits.compatible k r.shift lt_too).rows),
      let counted = count_of (map (row_of a) ss) m.rows.items (row_of a r.shift) h.rows in
          let begin = ap (λ (l : List ℕ). count_distinct (source_y a r.shift ∷ l)) (begins_y a ss) in
          let few = fits.within.rows in
          omega arith,
    )

pub fits_from : (a : Architecture) (m : Members) (r : Route) → IsMembers a m → IsRoute a r → m.zones ≡ r.zones →
    Takes m.columns.items (column r) a.figures.columns → Takes m.rows.items (row r) a.figures.rows → Fits a (moves m.routes.items) r.shift
fits_from a m r h is zones columns rows =
    let ss = moves m.routes.items in
    let across : Takes m.columns.items (column_of a r.shift) a.figures.columns =
    subst (λ (t : Track). Takes m.columns.items t a.figures.columns) (column_is a r is) columns in
    let along : Takes m.rows.items (row_of a r.shift) a.figures.rows =
    subst (λ (t : Track). Takes m.rows.items t a.figures.rows) (row_is a r is) rows in
    let all_columns = keeps_of (map (column_of a) ss) m.columns.items (column_of a r.shift) h.columns across.0 in
    let all_rows = keeps_of (map (row_of a) ss) m.rows.items (row_of a r.shift) h.rows along.0 in
    let long = length-map m.routes.items (λ (x : Route). x.shift) in
    let wide = length-map ss (column_of a) in
    let high = length-map ss (row_of a) in
    record {
      compatible = λ k d lt.
          let other : Route = get_or m.routes.items k r in
          let other_is : IsRoute a other = h.routes k r (omega arith) in
          let other_zones : other.zones ≡ r.zones = h.zones k r (omega arith) ∙ zones in
          let it : get_or ss k d ≡ other.shift = get_or-map (λ (x : Route). x.shift) m.routes.items k r d (omega arith) in
          let column_too : KeepsOrder (column_of a r.shift) (column_of a (get_or ss k d)) =
          subst (λ (t : Track). KeepsOrder (column_of a r.shift) t) (get_or-map (column_of a) ss k d (column r) lt) (all_columns k (column r) (omega arith)) in
          let row_too : KeepsOrder (row_of a r.shift) (row_of a (get_or ss k d)) =
          subst (λ (t : Track). KeepsOrder (row_of a r.shift) t) (get_or-map (row_of a) ss k d (row r) lt) (all_rows k (row r) (omega arith)) in
          record {
            one_source = subst (λ (s : Shift). AreInOneZone a r.shift.from s.from) (sym it)
                (r.zones.from, is.from_zone, subst (λ (z : Zones). IsInZone a other.shift.from.0 z.from) other_zones other_is.from_zone);
            one_target = subst (λ (s : Shift). AreInOneZone a r.shift.to s.to) (sym it)
                (r.zones.to, is.to_zone, subst (λ (z : Zones). IsInZone a other.shift.to.0 z.to) other_zones other_is.to_zone);
            columns = column_too;
            rows = row_too;
          };
      within =
          let count_columns = count_of (map (column_of a) ss) m.columns.items (column_of a r.shift) h.columns in
          let begin_columns = ap (λ (l : List ℕ). count_distinct (source_x a r.shift ∷ l)) (begins_x a ss) in
          let few_columns = across.1 in
          let count_rows = count_of (map (row_of a) ss) m.rows.items (row_of a r.shift) h.rows in
          let begin_rows = ap (λ (l : List ℕ). count_distinct (source_y a r.shift ∷ l)) (begins_y a ss) in
          let few_rows = along.1 in
          record { rows = omega arith; columns = omega arith };
    }

-- one move alone
pub fits_none : (a : Architecture) (s : Shift) → HasFigureRanges a.figures → Fits a [] s
fits_none a s ranges =
    let some_rows = ranges.rows_least in
    let some_columns = ranges.columns_least in
    record { compatible = λ k d lt. absurd (omega arith); within = record { rows = omega arith; columns = omega arith } }

one_track : (t : Track) → AreTracksOf (t ∷ []) (t ∷ [])
one_track t = record {
  rising = λ i j d lt j_in. absurd (omega arith);
  these = λ k d lt. (k, lt, get_or_default (t ∷ []) k (get_or (t ∷ []) k d) d lt);
  those = λ k d lt. (k, lt, get_or_default (t ∷ []) k (get_or (t ∷ []) k d) d lt);
}

single : (a : Architecture) (r : Route) → IsRoute a r → All (IsRoute a) (r ∷ [])
single a r is zero d lt = is
single a r is (suc k) d lt = absurd (omega arith)

pub members_one : (a : Architecture) (r : Route) (m : Members) → HasFigureRanges a.figures → IsRoute a r →
    m.routes.items ≡ r ∷ [] → m.zones ≡ r.zones → m.columns.items ≡ column r ∷ [] → m.rows.items ≡ row r ∷ [] → IsMembers a m
members_one a r m ranges is routes zones columns rows =
    let fits = fits_none a r.shift ranges in
    record {
      some = omega (arith, ap length routes);
      routes = subst (λ (l : List Route). All (IsRoute a) l) (sym routes) (single a r is);
      zones = subst (λ (l : List Route). All (λ (x : Route). x.zones ≡ m.zones) l) (sym routes) (one_zones (sym zones));
      columns = subst (λ (l : List Route). AreTracksOf (map (column_of a) (moves l)) m.columns.items) (sym routes)
          (subst (λ (l : List Track). AreTracksOf (column_of a r.shift ∷ []) l) (sym (columns ∙ ap (λ (t : Track). t ∷ []) (column_is a r is))) (one_track (column_of a r.shift)));
      rows = subst (λ (l : List Route). AreTracksOf (map (row_of a) (moves l)) m.rows.items) (sym routes)
          (subst (λ (l : List Track). AreTracksOf (row_of a r.shift ∷ []) l) (sym (rows ∙ ap (λ (t : Track). t ∷ []) (row_is a r is))) (one_track (row_of a r.shift)));
      compatible = subst (λ (l : List Route). AllPairs (IsCompatible a) (moves l)) (sym routes) (λ i j d lt j_in. absurd (omega arith));
      within = subst (λ (l : List Route). IsWithinLimits a (moves l)) (sym routes) fits.within;
    }
  where
    one_zones : r.zones ≡ m.zones → All (λ (x : Route). x.zones ≡ m.zones) (r ∷ [])
    one_zones e zero d lt = e
    one_zones e (suc k) d lt = absurd (omega arith)

-- one move more
pub members_more : (a : Architecture) (r : Route) (old new : Members) → IsMembers a old → IsRoute a r → Fits a (moves old.routes.items) r.shift →
    new.routes.items ≡ old.routes.items ++ r ∷ [] → new.zones ≡ old.zones →
    AreTracksOf (old.columns.items ++ column r ∷ []) new.columns.items → AreTracksOf (old.rows.items ++ row r ∷ []) new.rows.items → IsMembers a new
members_more a r old new h is fits routes zones columns rows =
    let ss = moves old.routes.items in
    let longer : moves new.routes.items ≡ ss ++ r.shift ∷ [] = ap moves routes ∙ map_push (λ (x : Route). x.shift) old.routes.items r in
    record {
      some = omega (arith, ap length routes, length_push old.routes.items r);
      routes = subst (λ (l : List Route). All (IsRoute a) l) (sym routes) (All-push (IsRoute a) old.routes.items r h.routes is);
      zones = subst (λ (z : Zones). All (λ (x : Route). x.zones ≡ z) new.routes.items) (sym zones)
          (subst (λ (l : List Route). All (λ (x : Route). x.zones ≡ old.zones) l) (sym routes)
          (All-push (λ (x : Route). x.zones ≡ old.zones) old.routes.items r h.zones (sym (fits_zones a old r h is fits))));
      columns = subst (λ (l : List Shift). AreTracksOf (map (column_of a) l) new.columns.items) (sym longer)
          (subst (λ (l : List Track). AreTracksOf l new.columns.items) (sym (map_push (column_of a) ss r.shift))
          (joined_more (map (column_of a) ss) old.columns.items new.columns.items (column_of a r.shift) h.columns
          (subst (λ (t : Track). AreTracksOf (old.columns.items ++ t ∷ []) new.columns.items) (column_is a r is) columns)));
      rows = subst (λ (l : List Shift). AreTracksOf (map (row_of a) l) new.rows.items) (sym longer)
          (subst (λ (l : List Track). AreTracksOf l new.rows.items) (sym (map_push (row_of a) ss r.shift))
          (joined_more (map (row_of a) ss) old.rows.items new.rows.items (row_of a r.shift) h.rows
          (subst (λ (t : Track). AreTracksOf (old.rows.items ++ t ∷ []) new.rows.items) (row_is a r is) rows)));
      compatible = subst (λ (l : List Shift). AllPairs (IsCompatible a) l) (sym longer)
          (all_pairs_push (IsCompatible a) ss r.shift h.compatible (λ k d lt. compatible_back a r.shift (get_or ss k d) (fits.compatible k d lt)));
      within = subst (λ (l : List Shift). IsWithinLimits a l) (sym longer) (within_end a r.shift ss fits.within);
    }
