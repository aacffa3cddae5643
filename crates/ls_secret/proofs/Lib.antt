mod SpTextLemmas
