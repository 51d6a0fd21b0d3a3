mod WorkedFacts
