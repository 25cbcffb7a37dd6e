-- What holds of the stacks with their document after a call.
use Rattle.std.proofs.Common.{◌≡◌, ◌+◌, List, [], ◌∷◌, ◌++◌, length, reverse, refl, sym, ap, ◌∙◌, subst, arith, append_assoc}
use Rattle.std.proofs.Common.{append-nil}
use Rattle.std.proofs.lemmas.List.{reverse-append, reverse-reverse, length-reverse}
use Rattle.document_definitions.specs.Document.{Document, with_selection}
use Rattle.document_definitions.specs.Selection.{Selection}
use Rattle.document_definitions.specs.Sound.{IsSound}
use Rattle.model_doc.specs.Batched.{Batched}
use Rattle.model_doc.specs.Held.{Held, Moment, present, in_state}
use Rattle.model_doc.specs.Records.{Done}
use Rattle.undo_stack.specs.Chains.{IsFrom, LedBack, LedOn}
use Rattle.undo_stack.specs.History.{History, undo, redo}
use Rattle.undo_stack.specs.Stacked.{Undone, Lists, one_undone, one_redone}
use Rattle.undo_stack.specs.Kept.{IsEarlier, AreEarlier, IsLike, IsUndone, AreUndone, Holds}
use Rattle.undo_stack.specs.Replays.{ComesOn}
use Rattle.undo_stack.specs.Turns.{IsTakenBack, IsMadeAnew, Reaches, after_undo, after_redo, last_count, last_undone_count}
use Rattle.undo_stack.proofs.Moments.{from_self, from_on, back_on}

-- the batches give the same documents at a moment that is like this one
pub earlier_on : (documents : List Document) (batches : List Batched) (now then : Moment) → IsFrom now then → AreEarlier documents batches now
    → AreEarlier documents batches then
earlier_on [] [] now then from all = all
earlier_on [] (batch ∷ batches) now then from all = all
earlier_on (document ∷ documents) [] now then from all = all
earlier_on (document ∷ documents) (batch ∷ batches) now then from all =
    let is = all.1 in
    (all.0, record { same = is.same; sound = is.sound; selection = is.selection; led = back_on all.0 (reverse batch.records) now then from is.led }, all.2)

pub like_on : (moment now then : Moment) → IsLike moment now → IsFrom now then → IsLike moment then
like_on moment now then like from = record {
  items = from.reached.0 ∙ like.items;
  markers = from.reached.1 ∙ like.markers;
  next_id = from.reached.2 ∙ like.next_id;
  cells = λ n. from.reached.3.0 n ∙ like.cells n;
  mark = from.mark ∙ like.mark;
}

pub undone_on : (documents : List Document) (all : List Undone) (now then : Moment) → IsFrom now then → AreUndone documents all now
    → AreUndone documents all then
undone_on [] [] now then from all = all
undone_on [] (undone ∷ rest) now then from all = all
undone_on (document ∷ documents) [] now then from all = all
undone_on (document ∷ documents) (undone ∷ rest) now then from all =
    let is = all.2 in (
      all.0,
      all.1,
      record {
        same = is.same;
        sound = is.sound;
        selection = is.selection;
        led = is.led;
        like = like_on all.0 now then is.like from;
        cells = (let a = is.cells in let b = from.reached.3.1 in omega (arith, a, b));
      },
      all.3,
    )

-- the way back, gone the other way
record Turned (start last : Moment) (records : List Done) : Type 0 where
  first : Moment
  from : IsFrom start first
  led : LedOn first records last

turned : (back on : List Done) (start middle last : Moment) → LedBack start back middle → LedOn middle on last → Turned start last (reverse back ++ on)
turned [] on start middle last led rest = record { first = middle; from = led; led = rest }
turned (done ∷ back) on start middle last led rest =
    let more = turned back (done ∷ on) start led.0 last led.2 (led.0, middle, from_self led.0, led.1, rest) in
    let same : reverse back ++ (done ∷ on)
    ≡ reverse (done ∷ back) ++ on = sym (ap (λ xs. xs ++ on) (reverse-append (done ∷ []) back) ∙ append_assoc (reverse back) (done ∷ []) on) in
    subst (Turned start last) same more

whole : (records : List Done) (start last : Moment) → LedBack start (reverse records) last → Turned start last records
whole records start last led =
    subst (Turned start last) (append-nil (reverse (reverse records)) ∙ reverse-reverse records)
    (turned (reverse records) [] start last last led (from_self last))

-- the mark counts the records
pub back_count : (records : List Done) (start now : Moment) → LedBack start records now → now.mark ≡ start.mark + length records
back_count [] start now led = (let m = led.mark in omega (arith, m))
back_count (done ∷ records) start now led = (let m = led.1.mark in let rest = back_count records start led.0 led.2 in omega (arith, m, rest))

on_count : (records : List Done) (start last : Moment) → LedOn start records last → last.mark ≡ start.mark + length records
on_count [] start last led = (let m = led.mark in omega (arith, m))
on_count (done ∷ records) start last led =
    let m = led.3.mark in
    let n = led.2.mark in
    let rest = on_count records led.1 last led.4 in
    omega (arith, m, n, rest)

-- a batch that stands is taken back
pub undo_holds : (history : History) (lists : Lists) (batch : Batched) (rest : List Batched) (old new : Held) → Holds history lists old → lists.earlier
    ≡ batch ∷ rest → IsTakenBack batch old new
    → Reaches (undo history) (one_undone batch rest old.state.document.selection lists) new
undo_holds history lists batch rest old new holds is back = go history.earlier refl
    (subst (λ batches. AreEarlier history.earlier batches (present old)) is holds.earlier)
  where
    go : (earlier : List Document) → history.earlier ≡ earlier → AreEarlier earlier (batch ∷ rest) (present old)
        → Reaches (undo (record { earlier = earlier; now = history.now; undone = history.undone }))
        (one_undone batch rest old.state.document.selection lists) new
    go [] e all = absurd all
    go (document ∷ before) e all =
        let way = whole batch.records all.0 (present old) all.1.led in
        let from = back.from all.0 document all.1 in
        record {
          now = back.document all.0 document all.1;
          sound = back.sound;
          earlier = earlier_on before rest all.0 (present new) from all.2;
          undone = (
            way.first,
            present old,
            record {
              same = holds.now;
              sound = holds.sound;
              selection = ap (λ (d : Document). d.selection) holds.now;
              led = way.led;
              like = record {
                items = from.reached.0 ∙ sym way.from.reached.0;
                markers = from.reached.1 ∙ sym way.from.reached.1;
                next_id = from.reached.2 ∙ sym way.from.reached.2;
                cells = λ n. from.reached.3.0 n ∙ sym (way.from.reached.3.0 n);
                mark = from.mark ∙ sym way.from.mark;
              };
              cells = back.cells;
            },
            holds.undone,
          );
        }

-- a batch that was undone is made anew
pub redo_holds : (history : History) (lists : Lists) (undone : Undone) (rest : List Undone) (batch : Batched) (old new : Held) → Holds history lists old
    → lists.undone ≡ undone ∷ rest → IsMadeAnew undone batch old new
    → Reaches (redo history) (one_redone batch rest lists) new
redo_holds history lists undone rest batch old new holds is on = go history.undone (subst (λ all. AreUndone history.undone all (present old)) is holds.undone)
  where
    go : (documents : List Document) → AreUndone documents (undone ∷ rest) (present old)
        → Reaches (redo (record { earlier = history.earlier; now = history.now; undone = documents })) (one_redone batch rest lists) new
    go [] all = absurd all
    go (document ∷ behind) all = record {
      now = on.document all.0 all.1 document all.2;
      sound = on.sound;
      earlier = (
        present old,
        record {
          same = holds.now;
          sound = holds.sound;
          selection = on.selection ∙ ap (λ (d : Document). d.selection) holds.now;
          led = on.back;
        },
        holds.earlier,
      );
      undone = undone_on behind rest all.1 (present new) (on.from all.0 all.1 document all.2) all.3;
    }

-- what may be undone, and what may be redone
pub may_undo : (history : History) (lists : Lists) (batch : Batched) (rest : List Batched) (held : Held) → Holds history lists held → lists.earlier
    ≡ batch ∷ rest
    → (start : Moment) × (document : Document) × IsEarlier start batch document (present held)
may_undo history lists batch rest held holds is = go history.earlier (subst (λ batches. AreEarlier history.earlier batches (present held)) is holds.earlier)
  where
    go : (earlier : List Document) → AreEarlier earlier (batch ∷ rest) (present held) → (start : Moment) × (document : Document)
        × IsEarlier start batch document (present held)
    go [] all = absurd all
    go (document ∷ before) all = (all.0, document, all.1)

pub may_redo : (history : History) (lists : Lists) (undone : Undone) (rest : List Undone) (held : Held) → Holds history lists held → lists.undone
    ≡ undone ∷ rest
    → (start : Moment) × (last : Moment) × (document : Document) × IsUndone start last undone document (present held)
may_redo history lists undone rest held holds is = go history.undone (subst (λ all. AreUndone history.undone all (present held)) is holds.undone)
  where
    go : (documents : List Document) → AreUndone documents (undone ∷ rest) (present held) → (start : Moment) × (last : Moment) × (document : Document)
        × IsUndone start last undone document (present held)
    go [] all = absurd all
    go (document ∷ behind) all = (all.0, all.1, document, all.2)

-- the marks then
pub back_mark : (batch : Batched) (old new : Held) (start : Moment) (document : Document) → IsEarlier start batch document (present old)
    → IsTakenBack batch old new → new.mark + length batch.records ≡ old.mark
back_mark batch old new start document is back =
    let a = back_count (reverse batch.records) start (present old) is.led in
    let b = (back.from start document is).mark in
    let c = length-reverse batch.records in
    omega (arith, a, b, c)

pub on_mark : (undone : Undone) (batch : Batched) (old new : Held) (start last : Moment) (document : Document)
    → IsUndone start last undone document (present old) → IsMadeAnew undone batch old new
    → new.mark ≡ old.mark + length undone.batch.records
on_mark undone batch old new start last document is on =
    let a = on_count undone.batch.records start last is.led in
    let b = (on.from start last document is).mark in
    let c = is.like.mark in
    omega (arith, a, b, c)

-- another selection, and no more
pub selected_from : (selection : Selection) (held new : Held) → new ≡ in_state (with_selection selection held.state) held → IsFrom (present held) (present new)
selected_from selection held new is = subst (λ (h : Held). IsFrom (present held) (present h)) (sym is)
    (record { reached = (refl, refl, refl, (λ n. refl, omega arith)); mark = refl })

pub selected_back : (start : Moment) (records : List Done) (selection : Selection) (old new : Held) → LedBack start (reverse records) (present old) → new
    ≡ in_state (with_selection selection old.state) old
    → LedBack start (reverse records) (present new)
selected_back start records selection old new led is = back_on start (reverse records) (present old) (present new) (selected_from selection old new is) led

-- what is one document but for the selection, and has its selection, is that document
is_whole : (moment now : Moment) (document : Document) → IsFrom moment now → moment.state.document ≡ document → now.state.document.selection
    ≡ document.selection → now.state.document ≡ document
is_whole moment now document from same selection = λ i. record {
  items = (from.reached.0 ∙ ap (λ (d : Document). d.items) same) i;
  markers = (from.reached.1 ∙ ap (λ (d : Document). d.markers) same) i;
  selection = selection i;
  next_id = (from.reached.2 ∙ ap (λ (d : Document). d.next_id) same) i;
}

pub made_anew : (undone : Undone) (batch : Batched) (old mid new : Held) → ComesOn undone.batch.records batch.records old mid → batch.selection
    ≡ old.state.document.selection
    → new ≡ in_state (with_selection undone.selection mid.state) mid → IsSound new.state → IsMadeAnew undone batch old new
made_anew undone batch old mid new on selection is sound = record {
  document = λ start last document u. is_whole last (present new) document (reached start last document u) u.same
      (ap (λ (h : Held). h.state.document.selection) is ∙ u.selection);
  from = reached;
  back = back_on (present old) (reverse batch.records) (present mid) (present new) (selected_from undone.selection mid new is) on.back;
  selection = selection;
  sound = sound;
}
  where
    reached : (start last : Moment) (document : Document) → IsUndone start last undone document (present old) → IsFrom last (present new)
    reached start last document u =
        from_on last (present mid) (present new) (on.to start last (record { led = u.led; like = u.like; cells = u.cells }))
        (selected_from undone.selection mid new is)

last-first : {A : Type 0} (front : List A) (last : A) → reverse (front ++ last ∷ []) ≡ last ∷ reverse front
last-first front last = reverse-append front (last ∷ [])

-- an undo, and a redo, as the lists have it
pub undo_reaches : (history : History) (lists made : Lists) (batch : Batched) (rest : List Batched) (selection : Selection) (old new : Held) → lists.earlier
    ≡ batch ∷ rest → selection ≡ old.state.document.selection
    → made ≡ after_undo selection lists.earlier lists → IsTakenBack batch old new → Holds history lists old → Reaches (undo history) made new
undo_reaches history lists made batch rest selection old new is same then back holds =
    subst (λ (ls : Lists). Reaches (undo history) ls new)
    (sym (then ∙ (λ i. after_undo (same i) (is i) lists)))
    (undo_holds history lists batch rest old new holds is back)

pub redo_reaches : (history : History) (lists made : Lists) (undone : Undone) (rest : List Undone) (batch : Batched) (old new : Held) → lists.undone
    ≡ undone ∷ rest → made ≡ after_redo batch lists.undone lists → IsMadeAnew undone batch old new
    → Holds history lists old → Reaches (redo history) made new
redo_reaches history lists made undone rest batch old new is then on holds =
    subst (λ (ls : Lists). Reaches (redo history) ls new)
    (sym (then ∙ (λ i. after_redo batch (is i) lists)))
    (redo_holds history lists undone rest batch old new holds is on)

-- the last of a stack's batches is the first of the list
pub is_first : {A : Type 0} (list items front : List A) (last : A) → reverse items ≡ list → items ≡ front ++ last ∷ [] → list ≡ last ∷ reverse front
is_first list items front last whole is = sym whole ∙ ap reverse is ∙ last-first front last

-- the marks, as the lists have it
pub undo_mark : (lists : Lists) (batch : Batched) (rest : List Batched) (old new : Held) → lists.earlier ≡ batch ∷ rest → IsTakenBack batch old new
    → ((history : History) × Holds history lists old)
    → new.mark + last_count lists.earlier ≡ old.mark
undo_mark lists batch rest old new is back has =
    let may = may_undo has.0 lists batch rest old has.1 is in
    ap (λ batches. new.mark + last_count batches) is ∙ back_mark batch old new may.0 may.1 may.2 back

pub redo_mark : (lists : Lists) (undone : Undone) (rest : List Undone) (batch : Batched) (old new : Held) → lists.undone ≡ undone ∷ rest
    → IsMadeAnew undone batch old new → ((history : History) × Holds history lists old)
    → new.mark ≡ old.mark + last_undone_count lists.undone
redo_mark lists undone rest batch old new is on has =
    let may = may_redo has.0 lists undone rest old has.1 is in
    on_mark undone batch old new may.0 may.1 may.2 may.3 on ∙ sym (ap (λ all. old.mark + last_undone_count all) is)
