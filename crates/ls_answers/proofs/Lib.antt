mod ListingLemmas
