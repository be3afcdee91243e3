mod TalkLemmas
mod ToldLemmas
