-- An eager clone owns its frames, and takes no right off the source: of a region, and of a process that has others besides.
use Rattle.std.specs.Prelude.{◌≡◌, refl, ◌≢◌, List, [], ◌∷◌, ℕ, ◌+◌, ◌/◌, ◌<◌, Some, Result, Ok, Err, ⊤}
use Rattle.std.proofs.Common.{ap, subst, ◌∙◌, inl, inr, arith}
use Rattle.std.proofs.Math.Decide.{ℕ_discrete}
use Rattle.laws.specs.ResultLaws.{err_not_ok}
use Rattle.answers.specs.declared.Refusal.{Refusal}
use Rattle.model.specs.declared.Region.{Region}
use Rattle.model.specs.declared.Entry.{Entry}
use Rattle.model.specs.Machine.{State, region_at, row_of}
use Rattle.model.specs.Answers.{and_then}
use Rattle.model.specs.Clone.{clone_each, core_clone}
use Rattle.model.specs.Access.{page_at}
use Rattle.model.specs.Refusals.{clone_process_refusals}
use Rattle.model.specs.Calls as calls
use Rattle.model.specs.Run.{call, step}
use Rattle.model.specs.Sound.{Sound, Used}
use Rattle.model.specs.Posix.{home_slot, frame_at}
use Rattle.laws.specs.In.{In}
use Rattle.keeping.specs.Owing.{Owing, row_at, entry_at, nothing}
use Rattle.keeping.specs.OwingOfSound.{sound_owing}
use Rattle.keeping.specs.CloneKept.{clone_region_kept, clone_kept}
use Rattle.isolation.specs.Statements.{OwnsAt, EagerCloneOwns, EagerForkOwns}
use Rattle.isolation.specs.ViewLaws.{Home, home_at}
use Rattle.isolation.specs.Undisturbed.{guarded_same}
use Rattle.isolation.specs.LoneHolder.{OwnEntry, own_page}
use Rattle.isolation.specs.LoadShows.{guarded_done}
use Rattle.isolation.specs.Cloned.{Facts, LoneStays}
use Rattle.isolation.specs.CloneStays.{Tried, Coming, first, first_tried, coming_on, Rest, each_facts, cloned, coming, is_cloned, clone_region_done}

-- ---- the regions of a process one after the other

-- the rows of the regions that are still to come are not the clone's
abbrev Elsewhere : List ℕ → (p q slot : ℕ) → Type 0
Elsewhere l p q slot = (t : ℕ) → In t l → row_of p t ≢ row_of q slot

-- an entry of the clone that alone has its frame stays so while others are cloned
entry_stays : (s after : State) (p t q slot pg : ℕ) → Facts s after q → LoneStays s after p t → row_of p t ≢ row_of q slot → OwnEntry s.machine q slot pg → OwnEntry after.machine q slot pg
entry_stays s after p t q slot pg f lone other k =
    let owner : (entry_at s.machine k.at).owner ≡ row_of q slot + 1 = ap (λ (e : Entry). e.owner) k.is in
    let taken : (entry_at s.machine k.at).owner ≢ 0 = λ z. omega arith in
    record {
      at = k.at;
      frame = k.frame;
      is = f.entries k.at taken ∙ k.is;
      single = lone k.at k.frame taken (λ z. other (omega arith)) (ap (λ (e : Entry). e.frame.0) k.is) k.single ∙ k.single;
    }

each_owns : (l : List ℕ) (s : State) (p q slot pg : ℕ) → Coming l s p q → Elsewhere l p q slot → OwnEntry s.machine q slot pg → OwnEntry (clone_each l s p q).state.machine q slot pg
unfolding clone_each
each_owns [] s p q slot pg k other own = own
each_owns (t ∷ l) s p q slot pg k other own =
    go (first t l s p q k).answer (first t l s p q k).state (entry_stays s (first t l s p q k).state p t q slot pg (first_tried t l s p q k).facts (first_tried t l s p q k).lone (other t (inl refl)) own)
    (each_owns l (first t l s p q k).state p q slot pg (coming_on t l s p q k) (λ j i. other j (inr i)))
  where
    go : (d : Result ⊤ Refusal) (u : State) → OwnEntry u.machine q slot pg → (OwnEntry u.machine q slot pg → OwnEntry (clone_each l u p q).state.machine q slot pg) → Rest (λ w. OwnEntry w.machine q slot pg) d u l p q
    go (Ok tt) u e rest = rest e
    go (Err x) u e rest = e

-- the page's home in the clone, and its entry there
record OwnedAt (s : State) (q c : ℕ) : Type 0 where
  slot : ℕ
  small : slot < 64
  home : home_slot s q c ≡ Some slot
  entry : OwnEntry s.machine q slot (c / 4096)

each_eager : (l : List ℕ) (s : State) (p q : ℕ) → Coming l s p q → (clone_each l s p q).answer ≡ Ok tt → (t c f : ℕ) → In t l → home_slot s p c ≡ Some t → (region_at s.machine p t).fork ≡ 1 → frame_at s p c ≡ Some f → OwnedAt (clone_each l s p q).state q c
unfolding clone_each
each_eager [] s p q k done t c f i home fork frame = absurd i
each_eager (v ∷ l) s p q k done t c f i home fork frame =
    let u : State = (first v l s p q k).state in
    go (first v l s p q k).answer u (first_tried v l s p q k) (each_facts l u p q on) (λ slot. each_owns l u p q slot (c / 4096) on) (each_eager l u p q on) done i
  where
    on : Coming l (first v l s p q k).state p q
    on = coming_on v l s p q k

    o : Owing nothing s.machine
    o = sound_owing s k.sound

    low : p < 8
    low = (home_at s.machine o p (c / 4096) t home).low

    used : (j : ℕ) → In j (v ∷ l) → Used (region_at s.machine p j)
    used j i = (o.listed p j low (k.listed j i)).1

    go : (d : Result ⊤ Refusal) (u : State) → Tried s u p v q d → Facts u (clone_each l u p q).state q → ((slot : ℕ) → Elsewhere l p q slot → OwnEntry u.machine q slot (c / 4096) → OwnEntry (clone_each l u p q).state.machine q slot (c / 4096))
        → ((clone_each l u p q).answer ≡ Ok tt → (t c f : ℕ) → In t l → home_slot u p c ≡ Some t → (region_at u.machine p t).fork ≡ 1 → frame_at u p c ≡ Some f → OwnedAt (clone_each l u p q).state q c)
        → (and_then (record { answer = d; state = u }) (λ w. clone_each l w p q)).answer ≡ Ok tt → In t (v ∷ l) → Rest (λ w. OwnedAt w q c) d u l p q
    go (Err x) u b rest owns later y j = absurd (err_not_ok y)
    go (Ok tt) u b rest owns later y (inl e) =
        let here : home_slot s p c ≡ Some v = home ∙ ap (λ (j : ℕ). Some j) e in
        let a = (b.done refl).eager (subst (λ (j : ℕ). (region_at s.machine p j).fork ≡ 1) e fork) in
        let elsewhere : Elsewhere l p q a.slot = λ j i z. used j (inr i) (ap (λ (x : ℕ). (row_at s.machine x).kind) z ∙ a.free) in
        record { slot = a.slot; small = a.small; home = (rest.stay q c a.slot (a.home c here)).home; entry = owns a.slot elsewhere (a.own c f here frame) }
    go (Ok tt) u b rest owns later y (inr j) =
        let a = b.facts.stay p c t home in
        let row = b.facts.rows (row_of p t) (used t (inr j)) in
        later y t c f j a.home (ap (λ (r : Region). r.fork) row ∙ fork) (a.left.frame ∙ frame)

-- .. and the source's pages keep their rights, whatever the answer
each_rights : (l : List ℕ) (s : State) (p q : ℕ) → Coming l s p q → (t c : ℕ) → home_slot s p c ≡ Some t → (region_at s.machine p t).fork ≡ 1 → page_at (clone_each l s p q).state.machine p c ≡ page_at s.machine p c
unfolding clone_each
each_rights [] s p q k t c home fork = refl
each_rights (v ∷ l) s p q k t c home fork = go (first v l s p q k).answer (first v l s p q k).state (first_tried v l s p q k) (each_rights l (first v l s p q k).state p q (coming_on v l s p q k) t c)
  where
    at : Home s.machine p t (c / 4096)
    at = home_at s.machine (sound_owing s k.sound) p (c / 4096) t home

    used : Used (region_at s.machine p t)
    used = ((sound_owing s k.sound).listed p t at.low at.listed).1

    here : (u : State) (d : Result ⊤ Refusal) → Tried s u p v q d → Dec (t ≡ v) → page_at u.machine p c ≡ page_at s.machine p c
    here u d b (yes e) = b.rights c (home ∙ ap (λ (j : ℕ). Some j) e) (subst (λ (j : ℕ). (region_at s.machine p j).fork ≡ 1) e fork)
    here u d b (no e) = b.outside c t home e

    go : (d : Result ⊤ Refusal) (u : State) → Tried s u p v q d → (home_slot u p c ≡ Some t → (region_at u.machine p t).fork ≡ 1 → page_at (clone_each l u p q).state.machine p c ≡ page_at u.machine p c) → Rest (λ w. page_at w.machine p c ≡ page_at s.machine p c) d u l p q
    go (Ok tt) u b rest = rest (b.facts.stay p c t home).home (ap (λ (r : Region). r.fork) (b.facts.rows (row_of p t) used) ∙ fork) ∙ here u (Ok tt) b (ℕ_discrete t v)
    go (Err x) u b rest = here u (Err x) b (ℕ_discrete t v)

-- ---- the calls

owns_at : (s : State) → Sound s → (q c : ℕ) → OwnedAt s q c → OwnsAt s q c
owns_at s sound q c k =
    let o = sound_owing s sound in
    record { slot = k.slot; home = k.home; own = own_page s.machine o q k.slot (c / 4096) k.small (home_at s.machine o q (c / 4096) k.slot k.home).inside k.entry }

pub eager_clone_owns : (s : State) → Sound s → EagerCloneOwns s
unfolding step call
eager_clone_owns s sound p a q slot done here fork =
    let e = (clone_region_done s sound p a q slot done here).eager fork in
    let after = (calls.clone_region s p a q).state in
    record {
      rights = e.mapped;
      owns = λ c f home frame. owns_at after (clone_region_kept s sound p a q) q c (record { slot = e.slot; small = e.small; home = e.home c home; entry = e.own c f home frame });
      bare = e.bare;
    }

fork_owned : (s : State) → Sound s → (p q c slot f : ℕ) → (calls.clone s p q).answer ≡ Ok tt → home_slot s p c ≡ Some slot → (region_at s.machine p slot).per_thread ≡ 0 → (region_at s.machine p slot).fork ≡ 1 → frame_at s p c ≡ Some f → OwnedAt (calls.clone s p q).state q c
unfolding calls.clone core_clone
fork_owned s sound p q c slot f done home thread fork frame =
    guarded_done s sound (clone_process_refusals s p q) (clone_each (cloned s p) s p q) done (λ x. OwnedAt x q c)
    (λ k y. each_eager (cloned s p) s p q (coming s sound p q k) y slot c f (is_cloned s sound p c slot home thread) home fork frame)

fork_rights : (s : State) → Sound s → (p q c slot : ℕ) → home_slot s p c ≡ Some slot → (region_at s.machine p slot).fork ≡ 1 → page_at (calls.clone s p q).state.machine p c ≡ page_at s.machine p c
unfolding calls.clone core_clone
fork_rights s sound p q c slot home fork =
    guarded_same s _ (clone_process_refusals s p q) _ (λ x. page_at x.machine p c ≡ page_at s.machine p c) refl (λ k. each_rights (cloned s p) s p q (coming s sound p q k) slot c home fork)

pub eager_fork_owns : (s : State) → Sound s → EagerForkOwns s
unfolding step call
eager_fork_owns s sound p q c slot home fork = record {
  rights = fork_rights s sound p q c slot home fork;
  owns = λ done thread f frame. owns_at (calls.clone s p q).state (clone_kept s sound p q) q c (fork_owned s sound p q c slot f done home thread fork frame);
}
